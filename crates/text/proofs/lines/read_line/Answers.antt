use Rattle.std.proofs.Common.{◌≡◌, length, Some, arith, rules, refl, ap, ◌∙◌}
use Rattle.std.proofs.Math.Seq.{length-slice}
use Rattle.text.specs.Steps.{seen}
use Rattle.text.proofs.LineLaws.{looks, same_line, found, none_seen, read-on, read-none}
use Rattle.text.proofs.lines.read_line.Goals as goal

pub loop-init : goal.loop-init
loop-init g c = let a = c.args in (looks a.hand a.buf.now c.requires, none_seen (seen a.hand a.buf.now) c.requires.none_seen, refl)

pub returns-then-more-w : goal.returns-then-more-w
returns-then-more-w g c =
    let l = c.loop in
    let m = c.make_room-w in
    let d = c.read_more-more in
    let s : length m.new.buf ≡ length l.buf = search rules in
    let t : length d.new.buf ≡ length m.new.buf = search rules in
    same_line c.last_line.ensures (read-none l.invariant.0 l.invariant.1 m.ensures s t d.ensures.kept c.args.buf.now (t ∙ s ∙ l.invariant.2))

pub returns-then-e-more : goal.returns-then-e-more
returns-then-e-more g c =
    let l = c.loop in
    let m = c.make_room-w in
    let d = c.read_more-more in
    let e = c.line_end-e in
    let s : length m.new.buf ≡ length l.buf = search rules in
    let t : length d.new.buf ≡ length m.new.buf = search rules in
    let looking = read-on l.invariant.0 l.invariant.1 m.ensures s t d.ensures c.if-more-w.false in
    same_line (ap Some c.line_of.ensures) (found _ _ _ looking e.result e.ensures.0 c.if-e-more.true c.args.buf.now (t ∙ s ∙ l.invariant.2))

pub loop-preserved : goal.loop-preserved
loop-preserved g c =
    let l = c.loop in
    let m = c.make_room-w in
    let d = c.read_more-more in
    let e = c.line_end-e in
    let s : length m.new.buf ≡ length l.buf = search rules in
    let t : length d.new.buf ≡ length m.new.buf = search rules in
    let looking = read-on l.invariant.0 l.invariant.1 m.ensures s t d.ensures c.if-more-w.false in
    let n = length-slice m.result.from d.result d.new.buf looking.inside in
    (looking, none_seen _ (omega (arith, c.if-e-more.false, e.ensures.0, looking.ordered, n)), t ∙ s ∙ l.invariant.2)

pub returns : goal.returns
returns g c =
    let l = c.loop in
    let m = c.make_room in
    let s : length m.new.buf ≡ length l.buf = search rules in
    same_line c.last_line-2.ensures (read-none l.invariant.0 l.invariant.1 m.ensures s refl refl c.args.buf.now (s ∙ l.invariant.2))
