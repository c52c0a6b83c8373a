use Rattle.std.proofs.Common.{ℕ, ◌≡◌, ◌*◌, ◌<◌, ◌^◌, length, get_or, subst, arith}
use borrow.Author.Tests.{lt-ltb}
use lib.Ieee.Bits.{is_true}
use Rattle.hot.specs.HotSet.Calls.{eviction_margin, lent_updates}
use Rattle.hot.specs.HotSet.Steps.{UpdatesEach}
use Rattle.hot.proofs.HotSet.EachLaws.{each-passed, lent-next, lent_length, key-within, updating-start, updating-next, updating-done}
use Rattle.hot.proofs.hot_set.HotSet.update_all.Goals as goal

pub loop-i-init : goal.loop-i-init
loop-i-init c =
    let p = each-passed _ _ _ _ _ _ _ _ _ c.requires in
    record { passed = p; made = updating-start eviction_margin _ _ _ _ _ p.asked }

pub overflow_mul-i : goal.overflow_mul-i
overflow_mul-i c = omega (arith, key-within c.args.keys.now c.args.w c.args.n c.loop-i.invariant.passed.fit.keys_fit c.loop-i.i c.loop-i-test.true)

pub offset_bounds-keys-i : goal.offset_bounds-keys-i
offset_bounds-keys-i c = omega (arith, key-within c.args.keys.now c.args.w c.args.n c.loop-i.invariant.passed.fit.keys_fit c.loop-i.i c.loop-i-test.true)

pub bounds-keys-i : goal.bounds-keys-i
bounds-keys-i c = key-within c.args.keys.now c.args.w c.args.n c.loop-i.invariant.passed.fit.keys_fit c.loop-i.i c.loop-i-test.true

pub loop-i-preserved : goal.loop-i-preserved
loop-i-preserved c =
    let a = c.args in
    let l = c.loop-i in
    let p = l.invariant.passed in
    let us = lent_updates a.keys.now a.w a.n a.demands.now a.thresholds.now a.elsewhere.now in
    let count : length us ≡ a.n = lent_length a.keys.now a.w a.n a.demands.now a.thresholds.now a.elsewhere.now p.fit in
    let key : get_or a.keys.now (l.i * a.w) 0 < 2 ^ 64 = omega (arith, c.type_inv.keys (l.i * a.w)) in
    let reading : a.now < 2 ^ 64 = omega (arith, c.ranges.now.fits) in
    record {
      passed = p;
      made =
          updating-next eviction_margin a.self a.now us a.hot.now a.out.now l.i l.set l.hot l.out l.invariant.made
          (omega (arith, c.loop-i-test.true, count))
          (omega (arith, p.room, count))
          _
          (lent-next a.keys.now a.w a.n a.demands.now a.thresholds.now a.elsewhere.now p.fit _ _ _ l.i c.loop-i-test.true)
          (record {
            key_word = lt-ltb (get_or a.keys.now (l.i * a.w) 0) (2 ^ 64) key;
            demand_f64 = is_true _ (c.type_inv.demands l.i);
            finite = p.numbers _ l.i c.loop-i-test.true;
            now_word = lt-ltb a.now (2 ^ 64) reading;
          })
          c.take_in-updated.result
          _
          c.take_in-updated.ensures;
    }

pub returns : goal.returns
returns c =
    let a = c.args in
    let l = c.loop-i in
    let us = lent_updates a.keys.now a.w a.n a.demands.now a.thresholds.now a.elsewhere.now in
    let count : length us ≡ a.n = lent_length a.keys.now a.w a.n a.demands.now a.thresholds.now a.elsewhere.now l.invariant.passed.fit in
    subst (λ (n : ℕ). UpdatesEach eviction_margin a.self a.hot.now us a.now n a.out.now l.set l.hot l.out) count
    (updating-done eviction_margin a.self a.now us a.hot.now a.out.now l.i l.set l.hot l.out l.invariant.made (omega (arith, c.loop-i-test.false, count)))
