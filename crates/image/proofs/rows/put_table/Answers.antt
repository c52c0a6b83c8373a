use Rattle.std.proofs.Common.{ℕ, ◌≡◌, ◌+◌, ◌-◌, ◌*◌, length, take, drop, map, refl, sym, ap, ◌∙◌, arith}
use Rattle.records.specs.Words.{paste}
use Rattle.records.specs.Records.{records, flat}
use Rattle.image.specs.Image.{record_bytes}
use Rattle.image.specs.Kinds.{kind_number}
use Rattle.image.specs.Steps.{table_bytes}
use Rattle.image.proofs.Saving.PutLaws.{paste_none, item-pasted, records-more, length-rows, within, row_within}
use Rattle.image.proofs.rows.put_table.Goals as goal

pub loop-i-init : goal.loop-i-init
unfolding records flat
loop-i-init c = (refl, sym (paste_none c.args.at c.args.out.now))

pub loop-i-preserved : goal.loop-i-preserved
loop-i-preserved c =
    let p = c.put_record in
    let w = c.words-w.result in
    let s = c.args in
    let k = kind_number s.kind in
    let l = c.loop-i in
    let h = row_within _ _ _ _ _ _ c.loop-i-test.true (within k s.n w s.at (length s.table.now) (length s.out.now) c.words-w.ensures c.requires.0 c.requires.1) in
    let d : l.i * w + w - l.i * w ≡ w = omega arith in (
      omega (arith, p.auto.out),
      p.ensures
          ∙ (λ i. paste (s.at + l.i * (3 + 8 * w)) (record_bytes k (take (d i) (drop (l.i * w) s.table.now))) (l.invariant.1 i))
          ∙ item-pasted (record_bytes k) (records w l.i s.table.now) (records w (l.i + 1) s.table.now) (take w (drop (l.i * w) s.table.now)) (records-more w l.i s.table.now)
          s.at (s.at + l.i * (3 + 8 * w)) s.out.now (omega (arith, h))
          (ap (λ (n : ℕ). s.at + n) (sym (length-rows k w l.i s.table.now (omega (arith, h))))),
    )

pub returns-clause-out_after : goal.returns-clause-out_after
unfolding table_bytes
returns-clause-out_after c =
    let w = c.words-w in
    let s = c.args in
    let l = c.loop-i in
    let e : l.i ≡ s.n = omega (arith, c.loop-i-test.false, l.auto.i-end) in
    l.invariant.1 ∙ (λ i. paste s.at (flat (map (record_bytes (kind_number s.kind)) (records (w.ensures i) (e i) s.table.now))) s.out.now)
