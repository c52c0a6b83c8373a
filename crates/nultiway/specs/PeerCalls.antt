-- The promise of each function of the library on the peers. Definitions only.
use Rattle.std.specs.Prelude.{ℕ, ◌-◌, ◌*◌, ◌%◌, ◌^◌, min, ◌≡◌, Bool, false, ◌&&◌, List, [], ◌∷◌, ◌++◌, map, leb, ltb, Float, length, get_or, replicate}
use Rattle.std.specs.Float.{binary32}
use Rattle.std.specs.Float.Ieee.{to_bits, of_bits}
use Rattle.records.specs.Records.{records}
use Rattle.peers.specs.declared.peer_demand.PeerDemand.{PeerDemand}
use Rattle.peers.specs.declared.peer_demand.KeyDemand.{KeyDemand}
use Rattle.peers.specs.declared.peer_demand.DemandReport.{DemandReport}
use Rattle.peers.specs.declared.peer_demand.PeersChanged.{PeersChanged}
use Rattle.peers.specs.declared.peer_demand.Heard.{Heard}
use Rattle.records.specs.Fields.{flag_word, flag_of}
use Rattle.questions.specs.Lists.{all}
use Rattle.peers.specs.Peers.State.{PeerTables, lengths}
use Rattle.peers.specs.Peers.Calls as demand
use Rattle.questions.specs.Questions.{Question, ◌asks◌, Answer}
use Rattle.nultiway.specs.Values.{peers_width, peers_words, peers_of, peers_room, room_asked}
use Rattle.nultiway.specs.Calls.{Called, Changes, Tells, number_of, one_word, float_words, flag_words}
use Rattle.std.specs.declared.option.Option.{Option}
use Rattle.std.specs.declared.option.Option.TheVariants.{None, Some}
use Rattle.std.specs.declared.result.Result.{Result}
use Rattle.questions.specs.declared.Refusal.{Refusal}
use Rattle.questions.specs.Refusals.{answer_of}

-- ---- the words of answers

-- whether the peer said something of the key; demand ('f32 in the low half'), primary, round, heard at
abbrev pub heard_words : Option Heard → List ℕ
heard_words None = 0 ∷ 0 ∷ 0 ∷ 0 ∷ 0 ∷ []
heard_words (Some h) = 1 ∷ to_bits binary32 h.demand ∷ flag_word h.primary ∷ h.round ∷ h.heard_at ∷ []

-- ---- calls that change the peers

-- question 1 of the peers' words
abbrev pub peers_asked : List ℕ → List Question
peers_asked ps = room_asked (leb peers_width (length ps))

-- `nultiway_peers_new`: the words of the new peers
abbrev pub New : (ps : List ℕ) → PeerTables → (r : ℕ) (ps' : List ℕ) → Type 0
New ps t r ps' =
    Called (peers_asked ps) r (ps' ≡ ps)
    (Tells (λ (u : PeerTables) (x : Result PeerDemand Refusal). demand.IsNew u x) t answer_of peers_words ps r ps')

-- a call that changes them, by the promise of the crate's function on what it is given
abbrev pub ChangesPeers :
    {B : Type 0}
    → (B → PeersChanged → Type 0)
    → B
    → List Question
    → (ps : List ℕ)
    → PeerTables
    → (r : ℕ) (ps' : List ℕ)
    → PeerTables
    → Type 0
ChangesPeers promise v qs ps t r ps' t' =
    Called qs r ((ps' ≡ ps) × (t' ≡ t))
    (Changes promise v (λ (x : PeersChanged). answer_of x.answer) (λ (x : PeersChanged). peers_words x.peers) ps r ps')

-- the peers, and the peer that a call names
pub record Named : Type 0 where
  pub peers : PeerDemand
  pub peer : ℕ

-- `nultiway_peers_forget`
abbrev pub Forget : (ps : List ℕ) → PeerTables → (peer : ℕ) (r : ℕ) (ps' : List ℕ) → PeerTables → Type 0
Forget ps t peer r ps' t' =
    ChangesPeers (λ (v : Named) (x : PeersChanged). demand.Forgets v.peers t v.peer x t')
    (record { peers = peers_of ps; peer = peer }) (peers_asked ps) ps t r ps' t'

-- `nultiway_peers_leave`
abbrev pub Leave : (ps : List ℕ) → PeerTables → (peer now hold : ℕ) (r : ℕ) (ps' : List ℕ) → PeerTables → Type 0
Leave ps t peer now hold r ps' t' =
    ChangesPeers (λ (v : Named) (x : PeersChanged). demand.Leaves v.peers t v.peer now hold x t')
    (record { peers = peers_of ps; peer = peer }) (peers_asked ps) ps t r ps' t'

-- `nultiway_peers_expire`
abbrev pub Expire : (ps : List ℕ) → PeerTables → (now max_age : ℕ) (r : ℕ) (ps' : List ℕ) → PeerTables → Type 0
Expire ps t now max_age r ps' t' =
    ChangesPeers (λ (p : PeerDemand) (x : PeersChanged). demand.Expires p t now max_age x t') (peers_of ps) (peers_asked ps) ps t r ps' t'

-- ---- a report in lent words

-- 'f32 in the low half'; 'flags are 0 or 1'
unfoldable pub is_listed : List ℕ → Bool
is_listed w = ltb (get_or w 1 0) (2 ^ 32) && leb (get_or w 2 0) 1

unfoldable pub listed_of : List ℕ → KeyDemand
listed_of w =
    record { key_hash = get_or w 0 0; demand = of_bits binary32 (get_or w 1 0 % 2 ^ 32); primary = flag_of (get_or w 2 0) }

-- what stands in the places past the keys that are listed
abbrev pub blank_key : KeyDemand
blank_key = record { key_hash = 0; demand = of_bits binary32 0; primary = false }

-- the 64 places, of which the first n are read
unfoldable pub keys_of : ℕ → List ℕ → List KeyDemand
keys_of n ws = map listed_of (records 3 n ws) ++ replicate (64 - n) blank_key

abbrev pub report_of : (origin epoch round : ℕ) (ws : List ℕ) (count : ℕ) → DemandReport
report_of origin epoch round ws count =
    record { origin = origin; epoch = epoch; round = round; count = count; keys = keys_of (min count 64) ws }

-- question 1 of whether the peers have room and of the report's words, of which more than 65 keys are not asked; question 2 of the keys that are read
abbrev pub report_asked : (room : Bool) (ws : List ℕ) (count : ℕ) → List Question
report_asked room ws count =
    (1 asks (room && leb (min count 65 * 3) (length ws))) ∷ (2 asks all is_listed (records 3 (min count 64) ws)) ∷ []

-- the peers, the sender and its report
pub record Sent : Type 0 where
  pub peers : PeerDemand
  pub peer : ℕ
  pub report : DemandReport

-- `nultiway_peers_apply`, of the report that the lent words and the numbers stand for
abbrev pub Apply :
    (ps : List ℕ)
    → PeerTables
    → (peer origin epoch round : ℕ) (ws : List ℕ) (count now : ℕ) (r : ℕ) (ps' : List ℕ)
    → PeerTables
    → Type 0
Apply ps t peer origin epoch round ws count now r ps' t' =
    ChangesPeers (λ (v : Sent) (x : PeersChanged). demand.Applies v.peers t v.peer v.report now x t')
    (record { peers = peers_of ps; peer = peer; report = report_of origin epoch round ws count })
    (report_asked (peers_room (length ps) (lengths t)) ws count) ps t r ps' t'

-- ---- calls that read

-- `nultiway_peers_ask`: questions 1 and 2 alone
abbrev pub Ask : (ps : List ℕ) → PeerTables → (r : ℕ) → Type 0
Ask ps t r = Called (peers_asked ps) r Unit (demand.Asks (peers_of ps) t r)

-- a call with a buffer of `size` words for its answer, by the promise of the crate's function on what it is given
abbrev pub TellsPeers :
    {B R A : Type 0}
    → (B → R → Type 0)
    → B
    → (R → Answer A)
    → (A → List ℕ)
    → ℕ
    → (ps answer : List ℕ) (r : ℕ) (answer' : List ℕ)
    → Type 0
TellsPeers promise v said words size ps answer r answer' =
    Called (room_asked (leb peers_width (length ps) && leb size (length answer))) r (answer' ≡ answer) (Tells promise v said words answer r answer')

-- `nultiway_peers_get`
abbrev pub Get : (ps : List ℕ) → PeerTables → (peer key : ℕ) (answer : List ℕ) (r : ℕ) (answer' : List ℕ) → Type 0
Get ps t peer key =
    TellsPeers (λ (v : Named) (x : Result (Option Heard) Refusal). demand.Gets v.peers t v.peer key x) (record { peers = peers_of ps; peer = peer })
    answer_of heard_words 5 ps

-- `nultiway_peers_total`
abbrev pub Total : (ps : List ℕ) → PeerTables → (key : ℕ) (answer : List ℕ) (r : ℕ) (answer' : List ℕ) → Type 0
Total ps t key = TellsPeers (λ (p : PeerDemand) (x : Result Float Refusal). demand.Totals p t key x) (peers_of ps) answer_of float_words 1 ps

-- `nultiway_peers_hot_elsewhere`
abbrev pub HotElsewhere : (ps : List ℕ) → PeerTables → (key : ℕ) (answer : List ℕ) (r : ℕ) (answer' : List ℕ) → Type 0
HotElsewhere ps t key =
    TellsPeers (λ (p : PeerDemand) (x : Result Bool Refusal). demand.TellsHotElsewhere p t key x) (peers_of ps) answer_of flag_words 1 ps

-- `nultiway_peers_len`
abbrev pub Len : (ps : List ℕ) → PeerTables → (answer : List ℕ) (r : ℕ) (answer' : List ℕ) → Type 0
Len ps t = TellsPeers (λ (p : PeerDemand) (x : Result ℕ Refusal). demand.Counts p t x) (peers_of ps) answer_of one_word 1 ps

-- `nultiway_peers_is_empty`
abbrev pub IsEmpty : (ps : List ℕ) → PeerTables → (answer : List ℕ) (r : ℕ) (answer' : List ℕ) → Type 0
IsEmpty ps t = TellsPeers (λ (p : PeerDemand) (x : Result Bool Refusal). demand.TellsEmpty p t x) (peers_of ps) answer_of flag_words 1 ps

-- ---- calls that read of many keys

-- the result of the crate's function on the peers keeps its promise, and gives the number
pub record Says {R A : Type 0} (promise : PeerDemand → R → Type 0) (v : PeerDemand) (said : R → Answer A) (r : ℕ) : Type 0 where
  pub result : R
  pub kept : promise v result
  pub number : r ≡ number_of (said result)

-- `nultiway_peers_total_of_each`
abbrev pub TotalOfEach : (ps : List ℕ) → PeerTables → (keys : List ℕ) (width count : ℕ) (out : List Float) (r : ℕ) (out' : List Float) → Type 0
TotalOfEach ps t keys width count out r out' =
    Called (peers_asked ps) r (out' ≡ out)
    (Says (λ (p : PeerDemand) (x : Result Unit Refusal). demand.TotalsEach p t width count keys out x out') (peers_of ps) answer_of r)

-- `nultiway_peers_hot_elsewhere_of_each`
abbrev pub HotElsewhereOfEach : (ps : List ℕ) → PeerTables → (keys : List ℕ) (width count : ℕ) (out : List Bool) (r : ℕ) (out' : List Bool) → Type 0
HotElsewhereOfEach ps t keys width count out r out' =
    Called (peers_asked ps) r (out' ≡ out)
    (Says (λ (p : PeerDemand) (x : Result Unit Refusal). demand.TellsHotElsewhereEach p t width count keys out x out') (peers_of ps) answer_of r)
