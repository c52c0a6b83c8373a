use Rattle.std.proofs.Common.{ℕ, ◌≡◌, ◌+◌, ◌-◌, length, drop, sym, ap, ◌∙◌, arith}
use Prim.Native.Nat.{suc}
use native.Mathlib.Nat.{zero-add}
use lib.ListN.{length-drop}
use Rattle.image.specs.Reader.{record_size, rows_first}
use Rattle.image.specs.Kinds.{kind_number}
use Rattle.image.proofs.Loading.ReadLaws.{begins-room, row-counted, none-counted}
use Rattle.image.proofs.rows.count_rows.Goals as goal

pub loop-kind-init : goal.loop-kind-init
loop-kind-init c =
    let s = c.args in
    let k = kind_number s.kind in
    let e : length (drop s.at s.from.now) - 0 ≡ length (drop s.at s.from.now) = omega arith in
    (omega arith, sym (zero-add _ ∙ ap (λ (n : ℕ). length (rows_first n k (drop s.at s.from.now))) e))

-- the record ends within the bytes
pub overflow_add-here : goal.overflow_add-here
overflow_add-here c =
    omega (arith, begins-room (kind_number c.args.kind) c.loop-kind.here c.args.from.now (sym c.begins.ensures ∙ c.loop-kind-test.true), c.size-size.ensures)

pub overflow_add-n : goal.overflow_add-n
overflow_add-n c =
    omega (arith, begins-room (kind_number c.args.kind) c.loop-kind.here c.args.from.now (sym c.begins.ensures ∙ c.loop-kind-test.true), c.size-size.ensures, c.loop-kind.invariant.0)

pub loop-kind-smaller : goal.loop-kind-smaller
loop-kind-smaller c =
    omega (arith, begins-room (kind_number c.args.kind) c.loop-kind.here c.args.from.now (sym c.begins.ensures ∙ c.loop-kind-test.true), c.size-size.ensures)

pub loop-kind-preserved : goal.loop-kind-preserved
loop-kind-preserved c =
    let s = c.args in
    let k = kind_number s.kind in
    let l = c.loop-kind in
    let z = c.size-size in
    let n = length (drop s.at s.from.now) in
    let found = sym c.begins.ensures ∙ c.loop-kind-test.true in
    let room = begins-room k l.here s.from.now found in
    let h : n - l.n ≡ suc (n - (l.n + 1)) = omega (arith, room, z.ensures, l.invariant.0, length-drop s.at s.from.now) in
    let more = row-counted k l.here s.from.now (n - l.n) (n - (l.n + 1)) h found in
    let place : l.here + record_size k ≡ l.here + z.result = ap (λ (m : ℕ). l.here + m) (sym z.ensures) in
    let there = ap (λ (m : ℕ). length (rows_first (n - (l.n + 1)) k (drop m s.from.now))) place in
    (omega (arith, l.invariant.0, room, z.ensures), l.invariant.1 ∙ omega (arith, more, there))

pub returns : goal.returns
returns c =
    let s = c.args in
    let l = c.loop-kind in
    let none = none-counted (kind_number s.kind) (length (drop s.at s.from.now) - l.n) (drop l.here s.from.now) (sym c.begins.ensures ∙ c.loop-kind-test.false) in
    omega (arith, l.invariant.1, none)
