-- The three parts are written, one after the other.
use mathlib.Core.Path.{◌≡◌, refl, sym, ap, ◌∙◌}
use mathlib.Core.List.{List, [], ◌∷◌}
use Prim.Native.Nat.{ℕ}
use native.Mathlib.Omega.{arith}
use Rattle.questions.specs.Refusals.{asked}
use Rattle.questions.proofs.RefusalLaws.{handed}
use Rattle.records.specs.Words.{paste}
use Rattle.peers.specs.Peers.State as peer-state
use Rattle.limiter.specs.State.{tables}
use Rattle.image.specs.Image.{record_bytes}
use Rattle.image.specs.Steps.{count_of, table_bytes}
use Rattle.image.proofs.Saving.SaveLaws.{one-row}
use Rattle.image.proofs.Saving.ImageLaws.{ready, saves-no, saves-short, saves-done, image-pasted}
use Rattle.image.proofs.writer.save_asked.Goals as goal

pub returns-in_err-answer : goal.returns-in_err-answer
returns-in_err-answer c =
    let s = c.args in
    rw (handed _ _ c.from_residual.ensures.1) (saves-no s.limiter (tables s.keys.now s.hot.now s.shadows.now) s.peers (peer-state.tables s.peer_table.now s.snapshot_keys.now s.contested.now) s.out.now _ (sym (ap (λ r. asked r) c.in_err-answer.was) ∙ c.requires))

pub image_len-len-requires : goal.image_len-len-requires
image_len-len-requires c = let s = c.args in (ready s.limiter (tables s.keys.now s.hot.now s.shadows.now) s.peers (peer-state.tables s.peer_table.now s.snapshot_keys.now s.contested.now) (sym (sym (ap (λ r. asked r) c.in_ok-answer.was) ∙ c.requires))).few

pub returns-then-out-len : goal.returns-then-out-len
returns-then-out-len c =
    let s = c.args in
    saves-short s.limiter (tables s.keys.now s.hot.now s.shadows.now) s.peers (peer-state.tables s.peer_table.now s.snapshot_keys.now s.contested.now) s.out.now (sym (sym (ap (λ r. asked r) c.in_ok-answer.was) ∙ c.requires)) (omega (arith, c.image_len-len.ensures))

pub put_limiter-at-requires : goal.put_limiter-at-requires
put_limiter-at-requires c = let s = c.args in ((ready s.limiter (tables s.keys.now s.hot.now s.shadows.now) s.peers (peer-state.tables s.peer_table.now s.snapshot_keys.now s.contested.now) (sym (sym (ap (λ r. asked r) c.in_ok-answer.was) ∙ c.requires))).limiter, omega (arith, c.image_len-len.ensures))

pub put_peers-end-requires : goal.put_peers-end-requires
put_peers-end-requires c =
    let s = c.args in
    ((ready s.limiter (tables s.keys.now s.hot.now s.shadows.now) s.peers (peer-state.tables s.peer_table.now s.snapshot_keys.now s.contested.now) (sym (sym (ap (λ r. asked r) c.in_ok-answer.was) ∙ c.requires))).peers, omega (arith, c.image_len-len.ensures, c.put_limiter-at.ensures.value, c.put_limiter-at.auto.out))

pub record_count-requires : goal.record_count-requires
record_count-requires c = let s = c.args in (ready s.limiter (tables s.keys.now s.hot.now s.shadows.now) s.peers (peer-state.tables s.peer_table.now s.snapshot_keys.now s.contested.now) (sym (sym (ap (λ r. asked r) c.in_ok-answer.was) ∙ c.requires))).few

pub returns : goal.returns
returns c =
    let s = c.args in
    let count : table_bytes 0 1 (c.record_count.result ∷ []) ≡ record_bytes 0 (count_of s.limiter s.peers ∷ []) = one-row 0 _ refl ∙ ap (λ (k : ℕ). record_bytes 0 (k ∷ [])) c.record_count.ensures in
    saves-done s.limiter (tables s.keys.now s.hot.now s.shadows.now) s.peers (peer-state.tables s.peer_table.now s.snapshot_keys.now s.contested.now) s.out.now (sym (sym (ap (λ r. asked r) c.in_ok-answer.was) ∙ c.requires)) c.image_len-len.result c.put_table.new.out c.image_len-len.ensures (omega (arith, c.image_len-len.ensures))
    (image-pasted s.limiter (tables s.keys.now s.hot.now s.shadows.now) s.peers (peer-state.tables s.peer_table.now s.snapshot_keys.now s.contested.now) s.out.now (sym (sym (ap (λ r. asked r) c.in_ok-answer.was) ∙ c.requires))
    c.put_limiter-at.result c.put_peers-end.result c.put_limiter-at.new.out c.put_peers-end.new.out c.put_table.new.out
    (omega (arith, c.image_len-len.ensures)) c.put_limiter-at.ensures.value c.put_peers-end.ensures.value c.put_limiter-at.ensures.out_after c.put_peers-end.ensures.out_after
    (c.put_table.ensures.out_after ∙ ap (λ (r : List ℕ). paste c.put_peers-end.result r c.put_peers-end.new.out) count))
