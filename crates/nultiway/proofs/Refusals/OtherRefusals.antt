-- A call on a Gcra, on the image or on the peers that answers a number other than 0 has changed no lent word.
use Prim.Native.Nat.{ℕ, ◌≤◌}
use mathlib.Core.Path.{◌≡◌, ap, ◌∙◌}
use mathlib.Core.Bool.{Bool, true, false, ◌&&◌}
use mathlib.Core.List.{List}
use borrow.Author.Tests.{leb-true}
use lib.Dec.{leb}
use lib.Ieee.{Float}
use lib.ListN.{length}
use Rattle.records.specs.Words.{paste}
use Rattle.gcra.specs.declared.Quota.{Quota}
use Rattle.gcra.specs.declared.Gcra.{Gcra}
use Rattle.questions.specs.Questions.{Question, passes}
use Rattle.gcra.specs.Calls as gcra
use Rattle.gcra.specs.Meter.{decision}
use Rattle.questions.proofs.Tests.{both}
use Rattle.peers.specs.declared.peer_demand.PeerDemand.{PeerDemand}
use Rattle.peers.specs.declared.peer_demand.PeersChanged.{PeersChanged}
use Rattle.peers.specs.Peers.State as peer-state
use Rattle.peers.specs.Peers.State.{PeersState, PeerTables}
use Rattle.peers.specs.Peers.Calls as demand
use Rattle.limiter.specs.State.{LimiterTables, lengths}
use Rattle.image.specs.Image.{image}
use Rattle.image.specs.Calls as image-calls
use Rattle.image.specs.Reader.{state_read}
use Rattle.nultiway.specs.Values.{limiter_of, limiter_asked, peers_words, peers_of, peers_room, room_asked}
use Rattle.nultiway.specs.Calls.{number_of, decision_words, one_word}
use Rattle.nultiway.specs.LoneCalls.{gcra_words, gcra_of, gcra_asked, GcraCheck, GcraSetQuota}
use Rattle.nultiway.specs.ImageCalls.{loaded_limiter, loaded_peers, Save, Load}
use Rattle.nultiway.specs.PeerCalls.{peers_asked, report_asked, Apply, Forget, Leave, Expire, TotalOfEach, HotElsewhereOfEach}
use Rattle.nultiway.proofs.Words.ValueLaws.{peers-back}
use Rattle.nultiway.proofs.Refusals.RefusalLaws.{not-all, no_words, kept, answered-or-not}
use Rattle.nultiway.proofs.Words.GcraWordLaws.{gcra-all, gcra-kept}
use Rattle.nultiway.proofs.Words.ReportLaws.{report-all}
use Rattle.nultiway.proofs.Calls.RoomLaws.{peers-three}
use Rattle.std.specs.declared.result.Result.{Result}
use Rattle.questions.specs.declared.Refusal.{Refusal}
use Rattle.questions.specs.Refusals.{answer_of}

-- ---- a Gcra

-- its words, written back
gcra-words-kept :
    (ws ws' : List ℕ) (room : Bool) (g : Gcra)
    → passes (gcra_asked ws room) ≡ true
    → g ≡ gcra_of ws
    → ws' ≡ paste 0 (gcra_words g) ws
    → ws' ≡ ws
gcra-words-kept ws ws' room g p e w =
    let q = gcra-all ws room p in
    w ∙ ap (λ (x : Gcra). paste 0 (gcra_words x) ws) e ∙ gcra-kept ws q.long q.gcra

module _ (ws : List ℕ) (r : ℕ) (ws' : List ℕ) (h : r ≡ 0 → ⊥) where
  pub gcra-check-unmoved : (now : ℕ) (out out' : List ℕ) → GcraCheck ws now out r ws' out' → (ws' ≡ ws) × (out' ≡ out)
  gcra-check-unmoved now out out' c =
      answered-or-not (gcra_asked ws (leb 2 (length out))) r c
      (λ p a.
      let x = a.result in
      let qs : List Question = gcra.ask_quota (gcra_of ws).quota in
      let q : passes qs ≡ false = not-all (decision (gcra_of ws) now) qs (answer_of x.answer) a.kept.decided
      (λ z. h (a.number ∙ z)) in (
        gcra-words-kept ws ws' (leb 2 (length out)) x.gcra p (kept qs _ _ x.gcra a.kept.left q) a.value,
        no_words (answer_of x.answer) decision_words out out' (λ z. h (a.number ∙ z)) a.answer,
      ))

  pub gcra-set-quota-unmoved : (q : Quota) (now : ℕ) → GcraSetQuota ws q now r ws' → ws' ≡ ws
  gcra-set-quota-unmoved q now c =
      answered-or-not (gcra_asked ws true) r c
      (λ p a.
      let x = a.result in
      let qs : List Question = gcra.ask_quotas (gcra_of ws) q in
      let n : passes qs ≡ false = not-all tt qs (answer_of x.answer) a.kept.set (λ z. h (a.number ∙ z)) in
      gcra-words-kept ws ws' true x.gcra p (kept qs _ _ x.gcra a.kept.left n) a.value)

-- ---- the image

pub save-unmoved :
    (ws : List ℕ) (t : LimiterTables) (ps : List ℕ) (pt : PeerTables) (out answer : List ℕ) (r : ℕ) (out' answer' : List ℕ)
    → (r ≡ 0 → ⊥)
    → Save ws t ps pt out answer r out' answer'
    → (out' ≡ out) × (answer' ≡ answer)
save-unmoved ws t ps pt out answer r out' answer' h c =
    answered-or-not (limiter_asked ws (lengths t) (leb 1 (length answer) && peers_room (length ps) (peer-state.lengths pt))) r c
    (λ p a.
    let x = a.result in
    let qs : List Question = image-calls.save_questions (limiter_of ws) t (peers_of ps) pt out in
    let v : ℕ = length (image (image-calls.here (limiter_of ws) t (peers_of ps) pt)) in
    let n : passes qs ≡ false = not-all v qs (answer_of x) a.kept.answered (λ z. h (a.number ∙ z)) in
    (kept qs _ _ out' a.kept.output n, no_words (answer_of x) one_word answer answer' (λ z. h (a.number ∙ z)) a.answer))

pub load-unmoved :
    (bs ws : List ℕ) (t : LimiterTables) (ps : List ℕ) (pt : PeerTables) (r : ℕ) (ws' : List ℕ) (t' : LimiterTables) (ps' : List ℕ) (pt' : PeerTables)
    → (r ≡ 0 → ⊥)
    → Load bs ws t ps pt r ws' t' ps' pt'
    → (ws' ≡ ws) × (t' ≡ t) × (ps' ≡ ps) × (pt' ≡ pt)
load-unmoved bs ws t ps pt r ws' t' ps' pt' h c =
    answered-or-not (room_asked (leb 16 (length ws) && leb 3 (length ps))) r c
    (λ p a.
    let x = answer_of a.result in
    let qs : List Question = image-calls.load_questions bs t pt in
    let v = image-calls.values_of (state_read bs) in
    let n : passes qs ≡ false = not-all v qs x a.kept.answered (λ z. h (a.put.number ∙ z)) in (
      no_words x loaded_limiter ws ws' (λ z. h (a.put.number ∙ z)) a.put.limiter,
      kept qs _ _ t' a.kept.words n,
      no_words x loaded_peers ps ps' (λ z. h (a.put.number ∙ z)) a.put.peers,
      kept qs _ _ pt' a.kept.peer_words n,
    ))

-- ---- the peers

-- a change that the crate refuses
change-unmoved :
    (ps : List ℕ) (t : PeerTables) (r : ℕ) (ps' : List ℕ) (t' : PeerTables) (qs : List Question) (change : PeersState → PeersState) (x : PeersChanged)
    → (r ≡ 0 → ⊥)
    → 3 ≤ length ps
    → demand.Changes qs change (peers_of ps) t x t'
    → r ≡ number_of (answer_of x.answer)
    → ps' ≡ paste 0 (peers_words x.peers) ps
    → (ps' ≡ ps) × (t' ≡ t)
change-unmoved ps t r ps' t' qs change x h l k e w =
    let n : passes qs ≡ false = not-all tt qs (answer_of x.answer) k.answered (λ z. h (e ∙ z)) in (
      w ∙ ap (λ (p : PeerDemand). paste 0 (peers_words p) ps) (kept qs _ _ x.peers k.value n) ∙ peers-back ps l,
      kept qs _ _ t' k.words n,
    )

-- the peers' words are there
three : (ps : List ℕ) → passes (peers_asked ps) ≡ true → 3 ≤ length ps
unfolding passes
three ps p = leb-true 3 (length ps) (both (leb 3 (length ps)) true p).0

module _ (ps : List ℕ) (t : PeerTables) (r : ℕ) (ps' : List ℕ) (t' : PeerTables) (h : r ≡ 0 → ⊥) where
  pub apply-unmoved :
      (peer origin epoch round : ℕ) (ws : List ℕ) (count now : ℕ)
      → Apply ps t peer origin epoch round ws count now r ps' t'
      → (ps' ≡ ps) × (t' ≡ t)
  apply-unmoved peer origin epoch round ws count now c =
      answered-or-not (report_asked (peers_room (length ps) (peer-state.lengths t)) ws count) r c
      (λ p a.
      let room : Bool = peers_room (length ps) (peer-state.lengths t) in
      let l = peers-three (length ps) (peer-state.lengths t) (report-all room ws count p).others in
      change-unmoved ps t r ps' t' _ _ a.result h l a.kept a.number a.value)

  pub forget-unmoved : (peer : ℕ) → Forget ps t peer r ps' t' → (ps' ≡ ps) × (t' ≡ t)
  forget-unmoved peer c =
      answered-or-not (peers_asked ps) r c (λ p a. change-unmoved ps t r ps' t' _ _ a.result h (three ps p) a.kept a.number a.value)

  pub leave-unmoved : (peer now hold : ℕ) → Leave ps t peer now hold r ps' t' → (ps' ≡ ps) × (t' ≡ t)
  leave-unmoved peer now hold c =
      answered-or-not (peers_asked ps) r c (λ p a. change-unmoved ps t r ps' t' _ _ a.result h (three ps p) a.kept a.number a.value)

  pub expire-unmoved : (now max_age : ℕ) → Expire ps t now max_age r ps' t' → (ps' ≡ ps) × (t' ≡ t)
  expire-unmoved now max_age c =
      answered-or-not (peers_asked ps) r c (λ p a. change-unmoved ps t r ps' t' _ _ a.result h (three ps p) a.kept a.number a.value)

-- of many keys
module _ (ps : List ℕ) (t : PeerTables) (keys : List ℕ) (width count : ℕ) (r : ℕ) (h : r ≡ 0 → ⊥) where
  each-unmoved :
      {A : Type 0} (tell : ℕ → PeersState → A) (out out' : List A) (x : Result Unit Refusal)
      → demand.TellsEach tell (peers_of ps) t width count keys out x out'
      → r ≡ number_of (answer_of x)
      → out' ≡ out
  each-unmoved tell out out' x k e =
      let qs : List Question = demand.each_questions (peers_of ps) t (length keys) width count (length out) in
      kept qs _ _ out' k.output (not-all tt qs (answer_of x) k.answered (λ z. h (e ∙ z)))

  pub total-of-each-unmoved : (out out' : List Float) → TotalOfEach ps t keys width count out r out' → out' ≡ out
  total-of-each-unmoved out out' c =
      answered-or-not (peers_asked ps) r c (λ p a. each-unmoved _ out out' a.result a.kept a.number)

  pub hot-elsewhere-of-each-unmoved : (out out' : List Bool) → HotElsewhereOfEach ps t keys width count out r out' → out' ≡ out
  hot-elsewhere-of-each-unmoved out out' c =
      answered-or-not (peers_asked ps) r c (λ p a. each-unmoved _ out out' a.result a.kept a.number)
