-- A call of the library on words that stand for a state leaves words that stand for the state after the call, and says what the definitions do.
use Prim.Native.Nat.{◌≤◌}
use mathlib.Core.Path.{◌≡◌, refl, sym, ap, ◌∙◌, subst}
use mathlib.Core.Bool.{Bool, true, false, cond}
use mathlib.Core.List.{List}
use lib.ListN.{length}
use native.Mathlib.Omega.{arith}
use Rattle.records.specs.Words.{paste}
use Rattle.questions.proofs.Tests.{split}
use Rattle.questions.specs.Questions.{Question, passes, first_no}
use Rattle.limiter.specs.declared.Config.{Config}
use Rattle.limiter.specs.declared.Limiter.{Limiter}
use Rattle.limiter.specs.State as limiter-state
use Rattle.limiter.specs.State.{LimiterState, LimiterTables, units_of}
use Rattle.image.specs.Image.{State}
use Rattle.run.specs.Run as run
use Rattle.run.specs.Run.{Change, Query, What, Reply, Memory}
use Rattle.run.specs.Typed.{typed_what}
use Rattle.run.specs.Trace.{after}
use Rattle.run.proofs.Standing.Stands as values
use Rattle.run.proofs.Standing.Stands.{LimiterStands, back-same, back_long, same-config}
use Rattle.run.proofs.Standing.Stepped.{steps-stand, steps-long}
use Rattle.run.proofs.Standing.Replied.{replied, steps-reply}
use Rattle.peers.specs.Peers.State as peer-state
use Rattle.nultiway.specs.Values.{limiter_words, limiter_of, is_limiter, peers_words, peers_of}
use Rattle.nultiway.proofs.Words.ValueLaws.{Typed, valid-typed}
use Rattle.library_run.specs.Calls as calls
use Rattle.library_run.specs.Calls.{Buffers, Call, Said, said, values_of}
use Rattle.library_run.specs.Runs.{Step, lend, lent_by, returned}
use Rattle.library_run.specs.Trace.{reported, what_of}
use Rattle.library_run.specs.Demand3.{typed_call}
use Rattle.library_run.proofs.Calls.OwnQuestions.{Needs, Part, Long, SameAsked, part, change_takes, query_takes, what_takes, own, own_asked, own_of, own_same, own-long}
use Rattle.library_run.proofs.Calls.Refined.{Written, Kept, looks_at, left, written, said_in, Same, changes-refined, reads-refined}
use Rattle.library_run.proofs.Calls.FrontLaws.{limiter-lent, is-limiter-lent, peers-lent, limiter-as-long, limiter-long-back, limiter-back, is-limiter-back, peers-as-long, peers-long-back, peers-back}

-- ---- words that stand for a state

pub record Stands (b : Buffers) (s : State) : Type 0 where
  pub long : 16 ≤ length b.limiter
  pub value : is_limiter b.limiter ≡ true
  pub peers_long : 3 ≤ length b.peers
  pub values : values.Stands (values_of b) s

-- a limiter that stands is of its types
pub stands-typed : {l : Limiter} {t : LimiterTables} {x : LimiterState} → LimiterStands l t x → Typed l
stands-typed {l} {t} s =
    valid-typed l t (subst (λ (y : LimiterState). limiter-state.valid (units_of y.settings) y ≡ true) (sym s.reads) s.valid)

-- the settings of the state's limiter
abbrev pub settings : State → Config
settings s = s.limiter.settings.config

-- ---- what the definitions say of a call

-- the library's own questions, of the state
abbrev pub own_in : Call → What → State → List Question
own_in c x s = own_of (settings s) c.lent c.report (what_takes c.answer x).needs

-- what it says, and the state after it, by whether its own questions are passed
module _ (c : Call) (x : What) (s : State) where
  abbrev pub said_where : (passed : Bool) → Said
  said_where passed =
      cond passed (said_in (replied c.lent.tables (what_of c.report x) s) c.answer)
      (said (first_no (own_in c x s)) c.answer (what_takes c.answer x).output)

  abbrev pub next_where : (passed : Bool) → State
  next_where passed = cond passed (after c.lent.tables (what_of c.report x) s) s

abbrev pub said_of : Call → State → Said
said_of c s = said_where c c.what s (passes (own_in c c.what s))

abbrev pub next : Call → State → State
next c s = next_where c c.what s (passes (own_in c c.what s))

-- a call that said z and left b says what is right, and b stands for the state and is as long as what was there before
pub record Leads (before : Buffers) (z : Said) (b : Buffers) (right : Said) (s : State) : Type 0 where
  pub says : z ≡ right
  pub stands : Stands b s
  pub long : lent_by b ≡ lent_by before

module _ {b : Buffers} {s : State} (c : Call) (enough : lent_by (lend c.lent b) ≡ c.lent) (st : Stands b s) where
  abbrev lent : Buffers
  lent = lend c.lent b

  abbrev needs_of : What → Needs
  needs_of x = (what_takes c.answer x).needs

  -- they are the same of all words that stand for the state
  pub own_in_lem : (x : What) → SameAsked (own lent c.report (needs_of x)) (own_in c x s)
  own_in_lem x =
      subst (λ (n : _). SameAsked (own_asked lent.limiter n c.report (needs_of x)) (own_in c x s)) (sym enough)
      (own_same lent.limiter (settings s) c.lent c.report (needs_of x) (ap (λ (n : _). n.limiter) enough)
      (λ n. (
        is-limiter-lent c.lent.limiter b.limiter n ∙ st.value,
        ap (λ (l : Limiter). l.config) (limiter-lent c.lent.limiter b.limiter n) ∙ same-config st.values.limiter,
      )))

  -- ---- the values that it looks at are those that are kept

  abbrev lent_values : Memory
  lent_values = run.lend c.lent.tables (values_of b)

  pub looks-same : (p : Part) → Long p lent → looks_at p lent (limiter_of b.limiter) (peers_of b.peers) ≡ run.lend c.lent.tables (values_of b)
  looks-same Part.limiter n = λ i.
      record { limiter = limiter-lent c.lent.limiter b.limiter n i; tables = lent.tables; peers = peers_of b.peers; peer_tables = lent.peer_tables }
  looks-same Part.with_peers n = λ i.
      record {
        limiter = limiter-lent c.lent.limiter b.limiter n.0 i;
        tables = lent.tables;
        peers = peers-lent c.lent.peers b.peers n.1 i;
        peer_tables = lent.peer_tables;
      }
  looks-same Part.peers n = λ i.
      record { limiter = limiter_of b.limiter; tables = lent.tables; peers = peers-lent c.lent.peers b.peers n i; peer_tables = lent.peer_tables }

  -- ---- what comes back as it was lent

  limiter-still : calls.Buffers.limiter (returned lent b) ≡ b.limiter
  limiter-still = back-same c.lent.limiter b.limiter (ap (λ (n : _). n.limiter) enough)

  peers-still : calls.Buffers.peers (returned lent b) ≡ b.peers
  peers-still = back-same c.lent.peers b.peers (ap (λ (n : _). n.peers) enough)

  still : returned lent b ≡ b
  unfolding peer-state.lengths
  still = λ i.
      record {
        limiter = limiter-still i;
        tables =
            record {
              keys = back-same c.lent.tables.limiter.keys b.tables.keys (ap (λ (n : _). n.tables.limiter.keys) enough) i;
              hot = back-same c.lent.tables.limiter.hot b.tables.hot (ap (λ (n : _). n.tables.limiter.hot) enough) i;
              shadows = back-same c.lent.tables.limiter.shadows b.tables.shadows (ap (λ (n : _). n.tables.limiter.shadows) enough) i;
            };
        peers = peers-still i;
        peer_tables =
            record {
              peers = back-same c.lent.tables.peers.peers b.peer_tables.peers (ap (λ (n : _). n.tables.peers.peers) enough) i;
              snapshot_keys =
                  back-same c.lent.tables.peers.snapshot_keys b.peer_tables.snapshot_keys (ap (λ (n : _). n.tables.peers.snapshot_keys) enough) i;
              contested = back-same c.lent.tables.peers.contested b.peer_tables.contested (ap (λ (n : _). n.tables.peers.contested) enough) i;
            };
      }

  -- ---- what a change left

  -- the words that it writes are long enough
  abbrev LongWritten : Written → Type 0
  LongWritten Written.limiter = 16 ≤ length lent.limiter
  LongWritten Written.peers = 3 ≤ length lent.peers

  written-long : (p : Part) → Long p lent → LongWritten (written p)
  written-long Part.limiter n = n
  written-long Part.with_peers n = n.0
  written-long Part.peers n = n

  left-stands :
      (q : Written) (m : Memory) {s' : State} → Kept q lent_values m → LongWritten q → values.Stands (run.returned m (values_of b)) s'
      → Stands (returned (left q lent m) b) s'
  left-stands Written.limiter m {s'} kept n u =
      let y = stands-typed u.limiter in
      record {
        long = limiter-long-back m.limiter lent.limiter b.limiter n;
        value = is-limiter-back m.limiter lent.limiter b.limiter n y;
        peers_long = omega (arith, ap length peers-still, st.peers_long);
        values =
            subst (λ (z : Memory). values.Stands z s')
            (sym
            (λ i. record {
              limiter = limiter-back m.limiter lent.limiter b.limiter n y i;
              tables = (run.returned m (values_of b)).tables;
              peers = (ap peers_of peers-still ∙ sym (ap (λ (z : Memory). z.peers) kept)) i;
              peer_tables = (run.returned (sym kept i) (values_of b)).peer_tables;
            }))
            u;
      }
  left-stands Written.peers m {s'} kept n u =
      record {
        long = omega (arith, ap length limiter-still, st.long);
        value = ap is_limiter limiter-still ∙ st.value;
        peers_long = peers-long-back m.peers lent.peers b.peers n;
        values =
            subst (λ (z : Memory). values.Stands z s')
            (sym
            (λ i. record {
              limiter = (ap limiter_of limiter-still ∙ sym (ap (λ (z : Memory). z.limiter) kept)) i;
              tables = (run.returned (sym kept i) (values_of b)).tables;
              peers = peers-back m.peers lent.peers b.peers n i;
              peer_tables = (run.returned m (values_of b)).peer_tables;
            }))
            u;
      }

  -- and is as long
  left-long :
      (q : Written) (m : Memory) → Kept q lent_values m → LongWritten q → run.lent_by (run.returned m (values_of b)) ≡ run.lent_by (values_of b)
      → lent_by (returned (left q lent m) b) ≡ lent_by b
  left-long Written.limiter m kept n e =
      let words = limiter-as-long m.limiter lent.limiter b.limiter n in
      (λ i.
      record {
        limiter = back_long c.lent.limiter (paste 0 (limiter_words m.limiter) lent.limiter) b.limiter words i;
        peers = length (peers-still i);
        tables = ((λ j. run.lent_by (record {
          limiter = m.limiter;
          tables = (run.returned m (values_of b)).tables;
          peers = m.peers;
          peer_tables = (run.returned (sym kept j) (values_of b)).peer_tables;
        })) ∙ e) i;
      })
  left-long Written.peers m kept n e =
      let words = peers-as-long m.peers lent.peers b.peers n in
      (λ i.
      record {
        limiter = length (limiter-still i);
        peers = back_long c.lent.peers (paste 0 (peers_words m.peers) lent.peers) b.peers words i;
        tables = ((λ j. run.lent_by (record {
          limiter = m.limiter;
          tables = (run.returned (sym kept j) (values_of b)).tables;
          peers = m.peers;
          peer_tables = (run.returned m (values_of b)).peer_tables;
        })) ∙ e) i;
      })

  -- ---- the call of `run` that it is

  pub run-enough : run.lent_by lent_values ≡ c.lent.tables
  run-enough = ap (λ (n : _). n.tables) enough

  abbrev run_step : {x : What} {r : Reply} {m : Memory} → run.Acts lent_values x r m
      → run.Step (values_of b) (record { lent = c.lent.tables; what = x }) r (run.returned m (values_of b))
  run_step a = record { enough = run-enough; after = _; acts = a; back = refl }

  -- ---- a call as a whole

  abbrev asked : What → List Question
  asked x = own lent c.report (needs_of x)

  abbrev LeadsWhere : What → Bool → Said → Buffers → Type 0
  LeadsWhere x passed z b' = Leads b z (returned b' b) (said_where c x s passed) (next_where c x s passed)

  -- a change that its own questions let pass
  changed-leads :
      (x : Change) {z : Said} {b' : Buffers} → typed_what (What.changes (reported c.report x)) ≡ true
      → passes (asked (What.changes x)) ≡ true → calls.Does lent c.answer c.report x z b' → LeadsWhere (What.changes x) true z b'
  changed-leads x {z} {b'} w e d =
      let p = part (change_takes c.answer x).needs in
      let n = own-long lent c.report (change_takes c.answer x).needs e in
      let k = (changes-refined lent c.answer c.report (limiter_of b.limiter) (peers_of b.peers) x d).answered e in
      let g = looks-same p n in
      let x' : Change = reported c.report x in
      let step = run_step (run.Acts.does (subst (λ (m : Memory). run.Does m x' k.reply k.after) g k.does)) in
      let kept = subst (λ (m : Memory). Kept (written p) m k.after) g k.kept in
      let far = written-long p n in
      record {
        says = k.says ∙ ap (λ (r : Reply). said_in r c.answer) (steps-reply st.values step);
        stands =
            subst (λ (y : Buffers). Stands (returned y b) (after c.lent.tables (What.changes x') s)) (sym k.words)
            (left-stands (written p) k.after kept far (steps-stand st.values w step));
        long =
            subst (λ (y : Buffers). lent_by (returned y b) ≡ lent_by b) (sym k.words)
            (left-long (written p) k.after kept far (steps-long st.values w step));
      }

  -- where nothing was written
  unmoved : {b' : Buffers} → b' ≡ lent → returned b' b ≡ b
  unmoved e = ap (λ (y : Buffers). returned y b) e ∙ still

  -- a call that reads
  told-leads :
      (x : Query) {z : Said} → passes (asked (What.reads x)) ≡ true → calls.Tells lent c.answer x z → LeadsWhere (What.reads x) true z lent
  told-leads x {z} e d =
      let k = (reads-refined lent c.answer c.report (limiter_of b.limiter) (peers_of b.peers) x d).answered e in
      let t = (query_takes c.answer x).needs in
      let g = looks-same (part t) (own-long lent c.report t e) in
      let step = run_step (run.Acts.does_tell (subst (λ (m : Memory). run.Tells m x k.told) g k.tells)) in
      record {
        says = k.says ∙ ap (λ (r : Reply). said_in r c.answer) (steps-reply st.values step);
        stands = subst (λ (y : Buffers). Stands y s) (sym (unmoved refl)) st;
        long = ap lent_by (unmoved refl);
      }

  -- one that they refuse
  refused-leads :
      (x : What) {z : Said} {b' : Buffers} → (z.number ≡ first_no (asked x)) → Same lent c.answer (what_takes c.answer x).output z b'
      → LeadsWhere x false z b'
  refused-leads x n u =
      record {
        says = λ i. said ((n ∙ (own_in_lem x).number) i) (u.0 i) (u.1 i);
        stands = subst (λ (y : Buffers). Stands y s) (sym (unmoved u.2)) st;
        long = ap lent_by (unmoved u.2);
      }

  -- by the answer to its own questions
  by-own : (x : What) {z : Said} (b' : Buffers) (passed : Bool) → passes (asked x) ≡ passed → LeadsWhere x passed z b'
      → LeadsWhere x (passes (own_in c x s)) z b'
  by-own x {z} b' passed e u = subst (λ (p : Bool). LeadsWhere x p z b') (sym e ∙ (own_in_lem x).passed) u

  acts-lead :
      (x : What) {z : Said} {b' : Buffers} → typed_what (what_of c.report x) ≡ true → calls.Acts lent c.answer c.report x z b'
      → LeadsWhere x (passes (own_in c x s)) z b'
  acts-lead (What.changes x) {b' = b'} w (calls.Acts.does d) =
      let k = changes-refined lent c.answer c.report (limiter_of b.limiter) (peers_of b.peers) x d in
      split (passes (asked (What.changes x)))
      (λ e. by-own (What.changes x) b' true e (changed-leads x w e d))
      (λ e. by-own (What.changes x) b' false e (refused-leads (What.changes x) (k.refused e).0 (k.refused e).1))
  acts-lead (What.reads x) w (calls.Acts.does_tell d) =
      let k = reads-refined lent c.answer c.report (limiter_of b.limiter) (peers_of b.peers) x d in
      split (passes (asked (What.reads x)))
      (λ e. by-own (What.reads x) lent true e (told-leads x e d))
      (λ e. by-own (What.reads x) lent false e (refused-leads (What.reads x) (k.refused e).0 ((k.refused e).1.0, (k.refused e).1.1, refl)))

pub steps-lead :
    {b b' : Buffers} {s : State} (c : Call) {z : Said} → typed_call c ≡ true → Stands b s → Step b c z b' → Leads b z b' (said_of c s) (next c s)
steps-lead {b} {b'} {s} c {z} w st step =
    subst (λ (y : Buffers). Leads b z y (said_of c s) (next c s)) (sym step.back) (acts-lead c step.enough st c.what w step.acts)
