-- What the update over words says of the copied words it says of the lent entries.
use Rattle.std.proofs.Common.{◌≡◌, ◌≤◌, ◌/◌, ◌++◌, ◌∙◌, ℕ, List, min, take, drop, length, length-append, length-drop, length-take, sym, arith}
use denote.Floats.{passes as fits-true}
use Rattle.questions.proofs.RefusalLaws.{handed}
use Rattle.hot_lent.proofs.CopyLaws.{stored, stored-none, stored_more, left-few, update-refused, update-stored}
use Rattle.hot_lent.proofs.update_with.Goals as goal

pub returns-in_err-updated : goal.returns-in_err-updated
returns-in_err-updated c =
    let t = c.args in
    rw (handed _ c.from_residual.result c.from_residual.ensures.1)
    (update-refused t.set t.entries.now t.key t.demand_rate t.threshold t.now t.hot_elsewhere _ _ c.word_count-n.ensures c.words_of-words.ensures.front _
    c.update_with.new.hot c.in_err-updated.ensures)

pub loop-i-init : goal.loop-i-init
loop-i-init c =
    let t = c.args in
    let n = c.word_count-n.result in
    let ws = c.words_of-words.result in
    let ys = c.update_with.new.hot in
    let few : c.in_ok-updated.updated.set.len ≤ min (length t.entries.now) 64 =
    left-few t.set t.entries.now t.key t.demand_rate t.threshold t.now t.hot_elsewhere _ _ c.word_count-n.ensures c.words_of-words.ensures.front
    (fits-true _ c.well_formed.1.1.1.0.1) c.in_ok-updated.updated ys c.in_ok-updated.ensures in
    let long : length ys ≡ length (take n ws) = c.update_with.auto.hot in
    let all : length (ys ++ drop n ws) ≡ 384 = omega (arith, length-append ys (drop n ws), length-take n ws, length-drop n ws) in
    let chunks : length c.as_chunks.result.0.now ≡ length (ys ++ drop n ws) / 6 = c.as_chunks.ensures.front_len in
    record {
      copied = stored-none _ _;
      places = omega arith;
      few = omega arith;
      records = omega (arith, chunks, all);
    }

pub loop-i-preserved : goal.loop-i-preserved
loop-i-preserved c = record {
  copied = rw c.loop-i.invariant.copied (stored_more c.loop-i.i _ c.args.entries.now c.of_record.result c.of_record.ensures);
  places = c.loop-i.invariant.places;
  few = c.loop-i.invariant.few;
  records = c.loop-i.invariant.records;
}

pub returns : goal.returns
returns c =
    let t = c.args in
    let l = c.loop-i in
    let ys = c.update_with.new.hot in
    let rest : List ℕ = drop c.word_count-n.result c.words_of-words.result in
    let all-left : c.in_ok-updated.updated.set.len ≡ l.i = omega arith in
    let chunks : length c.as_chunks.result.0.now ≡ length (ys ++ rest) / 6 = c.as_chunks.ensures.front_len in
    update-stored t.set t.entries.now t.key t.demand_rate t.threshold t.now t.hot_elsewhere _ _ c.word_count-n.ensures c.words_of-words.ensures.front
    (fits-true _ c.well_formed.1.1.1.0.1) c.in_ok-updated.updated ys c.in_ok-updated.ensures _ rest l.entries (omega (arith, chunks, l.invariant.records))
    (l.invariant.copied ∙ (λ k. stored (sym all-left k) (c.as_chunks.ensures.front k) t.entries.now))
