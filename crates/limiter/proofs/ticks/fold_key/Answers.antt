-- After each call the words are those of the key with one estimate more folded.
use Rattle.std.proofs.Common.{◌≡◌, ◌∙◌, ℕ, ◌+◌, ◌≤◌, List, refl, true, length, drop, get_or}
use Rattle.std.specs.Float.{binary64}
use Rattle.std.specs.Float.Ieee.{of_bits}
use Rattle.float.specs.Magnitude.{magnitude}
use Rattle.records.specs.Words.{paste}
use Rattle.limiter.specs.State.{Estimate, KeyRecord, key_words, key_of, estimate_words, estimate_of}
use Rattle.limiter.specs.Ticks.{folded}
use Rattle.limiter.specs.Steps.KeySteps.{units}
use Rattle.limiter.specs.Steps.TickSteps.{LentKey, folded_row}
use Rattle.limiter.proofs.States.RecordValidLaws.{GoodKey, key-says}
use Rattle.limiter.proofs.Walking.FoldLaws.{with_estimates, ready-3, folded-3, ready-7, folded-7, ready-11, folded-11, ready-15, folded-15}
use Rattle.limiter.proofs.ticks.fold_key.Goals as goal

-- the words of a fold of the estimate at a place
abbrev stored : (at c now : ℕ) → List ℕ → List ℕ
stored at c now r = paste at (estimate_words (folded c now (estimate_of (drop at r)))) r

-- an estimate may be folded there
abbrev Ready : (at : ℕ) → List ℕ → Type 0
Ready at r = (at + 4 ≤ length r) × (magnitude (of_bits binary64 (get_or r at 0)) ≡ true)

module _ (r : List ℕ) (lent : LentKey units r) (c d now : ℕ) where
  abbrev key : KeyRecord
  key = key_of units r

  good : GoodKey units key
  good = key-says units key lent.valid

  abbrev demand : Estimate
  demand = folded c now key.demand

  abbrev requests : Estimate
  requests = folded d now key.requests

  abbrev denials : Estimate
  denials = folded d now key.denials

  demand-ready : Ready 3 r
  demand-ready = ready-3 units key key.demand key.requests key.denials key.shadow_denials r lent.exact good.demand

  module _ (r₁ : List ℕ) (e₁ : r₁ ≡ stored 3 c now r) where
    first : r₁ ≡ key_words units (with_estimates key demand key.requests key.denials key.shadow_denials)
    first = folded-3 units key key.demand key.requests key.denials key.shadow_denials r lent.exact good.demand r₁ c c now refl e₁

    requests-ready : Ready 7 r₁
    requests-ready = ready-7 units key demand key.requests key.denials key.shadow_denials r₁ first good.requests

    module _ (r₂ : List ℕ) (e₂ : r₂ ≡ stored 7 d now r₁) where
      second : r₂ ≡ key_words units (with_estimates key demand requests key.denials key.shadow_denials)
      second = folded-7 units key demand key.requests key.denials key.shadow_denials r₁ first good.requests r₂ d d now refl e₂

      denials-ready : Ready 11 r₂
      denials-ready = ready-11 units key demand requests key.denials key.shadow_denials r₂ second good.denials

      module _ (r₃ : List ℕ) (b : ℕ) (q : b ≡ d) (e₃ : r₃ ≡ stored 11 b now r₂) where
        third : r₃ ≡ key_words units (with_estimates key demand requests denials key.shadow_denials)
        third = folded-11 units key demand requests key.denials key.shadow_denials r₂ second good.denials r₃ b d now q e₃

        shadows-ready : Ready 15 r₃
        shadows-ready = ready-15 units key demand requests denials key.shadow_denials r₃ third good.shadow_denials

        all-folded : (r₄ : List ℕ) (a : ℕ) → a ≡ d → r₄ ≡ stored 15 a now r₃ → r₄ ≡ folded_row units c d now r
        all-folded r₄ a p = folded-15 units key demand requests denials key.shadow_denials r₃ third good.shadow_denials r₄ a d now p

pub fold_estimate-demand-requires : goal.fold_estimate-demand-requires
fold_estimate-demand-requires c = demand-ready c.args.r.now c.requires 0 0 0

pub fold_estimate-requests-requires : goal.fold_estimate-requests-requires
fold_estimate-requests-requires c = requests-ready c.args.r.now c.requires _ 0 _ _ c.fold_estimate-demand.ensures.t_after

pub fold_estimate-denials-requires : goal.fold_estimate-denials-requires
fold_estimate-denials-requires c =
    denials-ready c.args.r.now c.requires _ _ _ _ c.fold_estimate-demand.ensures.t_after _ c.fold_estimate-requests.ensures.t_after

pub fold_estimate-shadow_denials-requires : goal.fold_estimate-shadow_denials-requires
fold_estimate-shadow_denials-requires c =
    shadows-ready c.args.r.now c.requires _ _ _ _ c.fold_estimate-demand.ensures.t_after _ c.fold_estimate-requests.ensures.t_after _ _
    c.fold_estimate-requests.ensures.time_constant_kept c.fold_estimate-denials.ensures.t_after

pub returns-clause-r_after : goal.returns-clause-r_after
returns-clause-r_after c =
    let same = c.fold_estimate-requests.ensures.time_constant_kept in
    all-folded c.args.r.now c.requires _ _ _ _ c.fold_estimate-demand.ensures.t_after _ c.fold_estimate-requests.ensures.t_after _ _
    same c.fold_estimate-denials.ensures.t_after _ _ (c.fold_estimate-denials.ensures.time_constant_kept ∙ same) c.fold_estimate-shadow_denials.ensures.t_after
