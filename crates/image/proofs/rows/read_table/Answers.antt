use Rattle.std.proofs.Common.{ℕ, ◌≡◌, ◌+◌, ◌*◌, ◌++◌, length, take, drop, map, refl, sym, ap, ◌∙◌, arith}
use native.Mathlib.Nat.{zero-add}
use Rattle.records.specs.Words.{paste}
use Rattle.records.specs.Records.{records, flat, table}
use Rattle.image.specs.Reader.{record_size, first_words}
use Rattle.image.specs.Kinds.{kind_number}
use Rattle.image.specs.Steps.{rows_at}
use Rattle.image.proofs.Saving.PutLaws.{paste_none, length-pasted, item-pasted, records-more, length-row, within, row_within}
use Rattle.image.proofs.Loading.ReadLaws.{part-pasted, row_words, length-read}
use Rattle.image.proofs.rows.read_table.Goals as goal

pub loop-i-init : goal.loop-i-init
unfolding records flat
loop-i-init c = (refl, sym (paste_none 0 c.args.to.now))

pub loop-i-preserved : goal.loop-i-preserved
loop-i-preserved c =
    let p = c.read_words in
    let l = c.loop-i in
    let w = c.words-w in
    let s = c.args in
    let k = kind_number s.kind in
    let a = l.i * w.result in
    let r = p.new.ws in
    let h = row_within _ _ _ _ _ _ c.loop-i-test.true (within k s.n w.result s.at (length s.to.now) (length s.from.now) w.ensures c.requires.0 c.requires.1) in
    let part = length-row _ _ _ _ _ _ l.to h (sym l.invariant.0) in
    let size : length r ≡ w.result = p.auto.ws ∙ part in
    let put = part-pasted a (a + w.result) l.to r (omega arith) (omega (arith, size)) in
    let bs = drop s.at s.from.now in
    let row = take (record_size k) (drop (l.i * record_size k) bs) in
    let read : r ≡ first_words k row = p.ensures ∙ row_words k s.at l.i w.result _ s.from.now w.ensures part h.in_bytes in
    let ends : a ≡ 0 + length (flat (map (first_words k) (records (record_size k) l.i bs))) =
    ap (λ (n : ℕ). l.i * n) w.ensures ∙ sym (zero-add _ ∙ length-read k l.i bs) in (
      ap length put ∙ length-pasted a r l.to (omega (arith, size, h.in_words, l.invariant.0)) ∙ l.invariant.0,
      put ∙ (λ j. paste a (read j) (l.invariant.1 j))
          ∙ item-pasted (first_words k) (records (record_size k) l.i bs) (records (record_size k) (l.i + 1) bs) row (records-more (record_size k) l.i bs) 0 a s.to.now (omega arith) ends,
    )

pub returns : goal.returns
unfolding rows_at table paste
returns c =
    let s = c.args in
    let k = kind_number s.kind in
    let l = c.loop-i in
    let e : l.i ≡ s.n = omega (arith, c.loop-i-test.false, l.auto.i-end) in
    let rows = flat (map (first_words k) (records (record_size k) s.n (drop s.at s.from.now))) in
    l.invariant.1
    ∙ ap (λ (n : ℕ). paste 0 (flat (map (first_words k) (records (record_size k) n (drop s.at s.from.now)))) s.to.now) e
    ∙ ap (λ (n : ℕ). rows ++ drop n s.to.now) (zero-add (length rows))
