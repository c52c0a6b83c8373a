use Rattle.std.proofs.Common.{◌∙◌, ◌*◌, ◌≤◌, arith, length, sym}
use Rattle.questions.proofs.Tests.{told-no, told-yes, contradiction}
use Rattle.records.proofs.Words.RecordLaws.{fits_le}
use Rattle.records.proofs.Tables.TypedLaws.{all_words}
use Rattle.records.proofs.Tables.ScanLaws.{scan_step, scan-done, scan-order, scan-record}
use Rattle.hot.specs.HotSet.Steps.{are_entry_words}
use Rattle.hot.proofs.HotSet.Scan.{scanned-is-asked, record-entry}
use Rattle.hot.proofs.hot_set.are_valid.Goals as goal
use Rattle.hot.proofs.hot_set.are_valid.Goals.{then-follows, else-follows}

pub overflow_mul-at : goal.overflow_mul-at
overflow_mul-at c = omega (arith, fits_le _ 6 _ (told-yes c.fits.ensures c.if-not-fits.false))

pub is_entry-requires : goal.is_entry-requires
is_entry-requires c = omega (arith, fits_le _ 6 _ (told-yes c.fits.ensures c.if-not-fits.false))

pub returns-then-not-is_entry : goal.returns-then-not-is_entry
returns-then-not-is_entry c =
    let n = c.args.n in
    let xs = c.args.hot.now in
    let i = c.loop-i.i in
    let fit = told-yes c.fits.ensures c.if-not-fits.false in
    let room : n * 6 ≤ length xs = fits_le _ 6 _ fit in
    elim c.if-follows.branch [
      | then-follows w ↦
          scan-record are_entry_words 6 n xs (omega arith) room i c.loop-i-test.true
          (sym (w.is_entry.ensures ∙ record-entry n xs i c.loop-i-test.true) ∙ sym w.value-is ∙ c.if-not-is_entry.true)
          ∙ scanned-is-asked n xs fit (all_words xs (λ i. omega (arith, c.type_inv.hot i)))
      | else-follows w ↦
          scan-order are_entry_words 6 n xs (omega arith) room i c.loop-i-test.true (told-no c.follows.ensures w.if-follows.false)
          ∙ scanned-is-asked n xs fit (all_words xs (λ i. omega (arith, c.type_inv.hot i)))
    ]

pub loop-i-preserved : goal.loop-i-preserved
loop-i-preserved c =
    let n = c.args.n in
    let xs = c.args.hot.now in
    let i = c.loop-i.i in
    elim c.if-follows.branch [
      | then-follows w ↦
          scan_step are_entry_words 6 n xs i c.loop-i.invariant c.loop-i-test.true (told-yes c.follows.ensures w.if-follows.true)
          (sym (w.is_entry.ensures ∙ record-entry n xs i c.loop-i-test.true) ∙ sym w.value-is ∙ c.if-not-is_entry.false)
      | else-follows w ↦ contradiction (sym c.if-not-is_entry.false ∙ w.value-is ∙ w.if-follows.false)
    ]

pub returns : goal.returns
returns c =
    let n = c.args.n in
    let xs = c.args.hot.now in
    let fit = told-yes c.fits.ensures c.if-not-fits.false in
    scan-done are_entry_words 6 n xs (omega arith) (fits_le _ 6 _ fit) c.loop-i.i c.loop-i.invariant c.loop-i-test.false
    ∙ scanned-is-asked n xs fit (all_words xs (λ i. omega (arith, c.type_inv.hot i)))
