-- A whole run through the library: the words that each call is lent come back from it, and the run is saved by `nultiway_save` and loaded by
-- `nultiway_load` at any places. Definitions only.
use Rattle.std.specs.Prelude.{ℕ, ◌≡◌, List, [], ◌∷◌, length, take, get_or}
use Rattle.limiter.specs.declared.Config.{Config}
use Rattle.run.specs.Run as run
use Rattle.run.specs.Run.{put_back}
use Rattle.nultiway.specs.LimiterCalls as limiter
use Rattle.nultiway.specs.PeerCalls as peers
use Rattle.nultiway.specs.ImageCalls as image
use Rattle.library_run.specs.Calls.{Buffers, values_of, Lent, Call, Said, Acts}

-- ---- a call: the first words of each buffer are lent, and come back

abbrev pub lend : Lent → Buffers → Buffers
lend n b =
    let m = run.lend n.tables (values_of b) in
    record { limiter = take n.limiter b.limiter; tables = m.tables; peers = take n.peers b.peers; peer_tables = m.peer_tables }

abbrev pub lent_by : Buffers → Lent
lent_by b = record { limiter = length b.limiter; peers = length b.peers; tables = run.lent_by (values_of b) }

abbrev pub returned : Buffers → Buffers → Buffers
returned part b =
    let m = run.returned (values_of part) (values_of b) in
    record { limiter = put_back part.limiter b.limiter; tables = m.tables; peers = put_back part.peers b.peers; peer_tables = m.peer_tables }

pub record Step (b : Buffers) (c : Call) (s : Said) (b' : Buffers) : Type 0 where
  -- there are as many words as the call is lent
  pub enough : lent_by (lend c.lent b) ≡ c.lent
  pub after : Buffers
  pub acts : Acts (lend c.lent b) c.answer c.report c.what s after
  pub back : b' ≡ returned after b

-- ---- runs

-- what a save is lent, its output and the buffer `answer`; and the words and tables that the load after it is lent, whatever they hold
pub record Resume : Type 0 where
  pub lent : Lent
  pub out : List ℕ
  pub answer : List ℕ
  pub into : Buffers

-- a list of calls, with places where one of the two runs is saved and loaded
pub data Move : Type 0 where
  call : Call → Move
  resume : Resume → Move

-- the image that a save with room would write
abbrev pub image_of : Buffers → List ℕ
image_of b = run.image_of (values_of b)

-- what is compared: after each call the number, the words of `answer`, the output, and the image; after a place of resumption the image
pub data Shown : Type 0 where
  answered : Said → (image : List ℕ) → Shown
  resumed : (image : List ℕ) → Shown

-- from what a server keeps, a list of moves shows what is compared and leaves what it then keeps; `At` says what happens at a place of resumption
pub data Runs (At : Buffers → Resume → Buffers → Type 0) : Buffers → List Move → List Shown → Buffers → Type 0 where
  end : {b : Buffers} → Runs At b [] [] b
  calls :
      {b b' last : Buffers} {c : Call} {s : Said} {ms : List Move} {xs : List Shown} → Step b c s b' → Runs At b' ms xs last
      → Runs At b (call c ∷ ms) (answered s (image_of b') ∷ xs) last
  resumes :
      {b b' last : Buffers} {w : Resume} {ms : List Move} {xs : List Shown} → At b w b' → Runs At b' ms xs last
      → Runs At b (resume w ∷ ms) (resumed (image_of b') ∷ xs) last

-- nothing happens there in the unbroken run
abbrev pub GoesOn : Buffers → Resume → Buffers → Type 0
GoesOn b w b' = b' ≡ b

-- `nultiway_save` there answers r and leaves out' and answer'; where r is 0, the first word of answer' is how many bytes it wrote
abbrev pub SavesAt : Buffers → Resume → (r : ℕ) (out' answer' : List ℕ) → Type 0
SavesAt b w r out' answer' =
    let part = lend w.lent b in
    image.Save part.limiter part.tables part.peers part.peer_tables w.out w.answer r out' answer'

-- `nultiway_load` of those bytes answers r and leaves b'
abbrev pub LoadsAt : Resume → (out' answer' : List ℕ) (r : ℕ) → Buffers → Type 0
LoadsAt w out' answer' r b' =
    let x = w.into in
    image.Load (take (get_or answer' 0 0) out') x.limiter x.tables x.peers x.peer_tables r
    b'.limiter b'.tables b'.peers b'.peer_tables

-- both answer 0
pub data Resumes (b : Buffers) (w : Resume) : Buffers → Type 0 where
  saved_and_loaded : {out' answer' : List ℕ} {b' : Buffers} → SavesAt b w 0 out' answer' → LoadsAt w out' answer' 0 b' → Resumes b w b'

abbrev pub Unbroken : Buffers → List Move → List Shown → Buffers → Type 0
Unbroken = Runs GoesOn

abbrev pub Resumed : Buffers → List Move → List Shown → Buffers → Type 0
Resumed = Runs Resumes

-- the words that `nultiway_limiter_new` and `nultiway_peers_new` wrote, with the tables that they were lent or others
pub record Started (c : Config) (into b : Buffers) : Type 0 where
  pub limiter : limiter.New into.limiter into.tables c 0 b.limiter
  pub peers : peers.New into.peers into.peer_tables 0 b.peers
