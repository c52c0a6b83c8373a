-- `key_in` meets its contract.
use Rattle.std.proofs.Common.{◌≡◌, ℕ, ◌+◌, ◌*◌, ◌≤◌, List, [], ◌∷◌, length, ◌∙◌, subst, sym, arith}
use Rattle.records.specs.declared.Found.{Found}
use Rattle.records.specs.declared.Found.TheVariants.{At}
use Rattle.records.specs.Records.{records, find, find_in}
use Rattle.records.proofs.Words.RecordLaws.{row, lent-record}
use Rattle.records.proofs.Words.RowLaws.{find-says}
use Rattle.peers.specs.Peers.Steps.Heard.{KeyTable, KeyIn}
use Rattle.peers.proofs.Peers.Readers.HeardLaws.{place-below, key-found, table-missing, gap-of}
use Rattle.peers.proofs.peer_heard.key_in.Goals as goal

module _ (w n id key i : ℕ) (xs : List ℕ) (t : KeyTable w n xs) (r : Found) (e : r ≡ find_in w 2 n id key xs) (f : r ≡ At i) where
  found : find 2 (id ∷ key ∷ []) (records w n xs) ≡ At i
  found = find-says w 2 n id key xs (omega arith) (omega arith) (omega (arith, t.ready.wide)) t.ready.fit r e ∙ f

  inside : i * w + w ≤ length xs
  inside = omega (arith, row w n i (place-below w n id key xs t i found), t.ready.fit)

pub overflow_mul-result : goal.overflow_mul-result
overflow_mul-result c = omega (arith, inside _ _ _ _ _ _ c.requires _ c.find.ensures c.in-At.is)

pub overflow_mul-result-in-At : goal.overflow_mul-result-in-At
overflow_mul-result-in-At c = omega (arith, inside _ _ _ _ _ _ c.requires _ c.find.ensures c.in-At.is)

pub overflow_add-result : goal.overflow_add-result
overflow_add-result c = omega (arith, inside _ _ _ _ _ _ c.requires _ c.find.ensures c.in-At.is)

pub offset_bounds-t-i : goal.offset_bounds-t-i
offset_bounds-t-i c = omega (arith, inside _ _ _ _ _ _ c.requires _ c.find.ensures c.in-At.is)

pub slice_bounds-result-end : goal.slice_bounds-result-end
slice_bounds-result-end c = inside _ _ _ _ _ _ c.requires _ c.find.ensures c.in-At.is

pub returns-in-At : goal.returns-in-At
returns-in-At c =
    let s = c.args in
    let at = found _ _ _ _ _ _ c.requires _ c.find.ensures c.in-At.is in
    subst (KeyIn s.w s.id s.key (records s.w s.n s.t.now)) (sym (lent-record s.w s.n s.t.now c.in-At.i (place-below s.w s.n s.id s.key s.t.now c.requires c.in-At.i at)))
    (key-found s.w s.n s.id s.key s.t.now c.requires c.in-At.i at)

pub returns-in_default : goal.returns-in_default
returns-in_default c =
    let s = c.args in
    let t = c.requires in
    let gap = gap-of s.w 2 s.n s.id s.key s.t.now (omega arith) (omega arith) (omega (arith, t.ready.wide)) t.ready.fit c.find.result c.find.ensures c.in_default.not-At in
    table-missing s.w s.n s.id s.key s.t.now t gap.0 (find-says s.w 2 s.n s.id s.key s.t.now (omega arith) (omega arith) (omega (arith, t.ready.wide)) t.ready.fit c.find.result c.find.ensures ∙ gap.1)
