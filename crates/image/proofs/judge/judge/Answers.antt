-- `judge` meets its contract: each test is one that every image passes, and together they are question 13.
use Rattle.std.proofs.Common.{ℕ, ◌≡◌, ap, ◌∙◌, subst, List, drop, arith}
use lib.ListN.{replicate, length-replicate}
use Rattle.records.specs.Records.{same, table}
use Rattle.questions.specs.Questions.{given}
use Rattle.questions.proofs.Tests.{told-no, told-yes}
use Rattle.questions.proofs.Answers.{alone-no, alone-yes}
use Rattle.limiter.specs.declared.Limiter.{Limiter}
use Rattle.image.specs.declared.Loaded.{Loaded}
use Rattle.image.specs.declared.scan.Sections.{Sections}
use Rattle.image.specs.Reader.{is_end, first_words}
use Rattle.image.specs.Steps.{Scans, rows_at}
use Rattle.image.specs.LoadSteps.{FewFound, Reads}
use Rattle.image.proofs.Loading.JudgeLaws.{all-bytes, words-read, few-says, no-few, no_end, no_same, no-limiter, no-peers, is-image, values-read}
use Rattle.image.proofs.judge.judge.Goals as goal

-- kind 1's words in the table that they were read into, and the limiter and the settings of that table
module _ (bs : List ℕ) (found : Sections) (s : Scans bs found) (few : FewFound found) (ws : List ℕ) (e : ws ≡ table (rows_at 1 found.settings.n bs) (replicate 13 0)) where
  read : ws ≡ first_words 1 bs
  read = words-read bs found s few (replicate 13 0) ws (length-replicate {A = ℕ} 13 0) e

  reads : (l : Limiter) → Reads ws found l → Reads (first_words 1 bs) found l
  reads l r = subst (λ (xs : List ℕ). Reads xs found l) read r

pub returns-then-not-are_few : goal.returns-then-not-are_few
returns-then-not-are_few c = alone-no 13 _ (no-few _ _ c.requires (told-no c.are_few.ensures c.if-not-are_few.true))

pub count_in-requires : goal.count_in-requires
count_in-requires c = few-says _ (told-yes c.are_few.ensures c.if-not-are_few.false)

pub returns-then-not-is_end : goal.returns-then-not-is_end
returns-then-not-is_end c =
    alone-no 13 _
    (no_end _ _ c.requires
    (told-no (c.is_end.ensures ∙ ap (λ (k : ℕ). is_end k (drop c.args.found.contested.end c.args.image.now)) c.count_in.ensures) c.if-not-is_end.true))

pub read_table-requires : goal.read_table-requires
read_table-requires c =
    let few = few-says _ (told-yes c.are_few.ensures c.if-not-are_few.false) in
    let r = c.requires.settings in
    (omega (arith, few.settings, length-replicate {A = ℕ} 13 0), omega (arith, r.ends, r.within))

pub returns-then-not-are_same : goal.returns-then-not-are_same
returns-then-not-are_same c =
    let a = c.args in
    let few = few-says _ (told-yes c.are_few.ensures c.if-not-are_few.false) in
    let r = reads a.image.now a.found c.requires few _ c.read_table.ensures c.limiter_of-limiter.result c.limiter_of-limiter.ensures in
    let same-is = c.are_same.ensures ∙ (λ i. same (c.settings_words-again.ensures i) (read a.image.now a.found c.requires few _ c.read_table.ensures i)) in
    alone-no 13 _ (no_same _ _ c.requires few c.limiter_of-limiter.result r (told-no same-is c.if-not-are_same.true))

pub has_valid_limiter-requires : goal.has_valid_limiter-requires
has_valid_limiter-requires c =
    let a = c.args in
    let few = few-says _ (told-yes c.are_few.ensures c.if-not-are_few.false) in
    (c.requires, few, c.limiter_of-limiter.ensures.counts)

pub returns-then-not-has_valid_limiter : goal.returns-then-not-has_valid_limiter
returns-then-not-has_valid_limiter c =
    let a = c.args in
    let few = few-says _ (told-yes c.are_few.ensures c.if-not-are_few.false) in
    let r = reads a.image.now a.found c.requires few _ c.read_table.ensures c.limiter_of-limiter.result c.limiter_of-limiter.ensures in
    let same-is = c.are_same.ensures ∙ (λ i. same (c.settings_words-again.ensures i) (read a.image.now a.found c.requires few _ c.read_table.ensures i)) in
    alone-no 13 _
    (no-limiter _ _ c.requires few c.limiter_of-limiter.result r (told-yes same-is c.if-not-are_same.false) (told-no c.has_valid_limiter.ensures c.if-not-has_valid_limiter.true))

pub has_valid_peers-requires : goal.has_valid_peers-requires
has_valid_peers-requires c = (c.requires, few-says _ (told-yes c.are_few.ensures c.if-not-are_few.false))

pub returns-then-not-has_valid_peers : goal.returns-then-not-has_valid_peers
returns-then-not-has_valid_peers c =
    let a = c.args in
    let few = few-says _ (told-yes c.are_few.ensures c.if-not-are_few.false) in
    let r = reads a.image.now a.found c.requires few _ c.read_table.ensures c.limiter_of-limiter.result c.limiter_of-limiter.ensures in
    let same-is = c.are_same.ensures ∙ (λ i. same (c.settings_words-again.ensures i) (read a.image.now a.found c.requires few _ c.read_table.ensures i)) in
    alone-no 13 _
    (no-peers _ _ c.requires few c.limiter_of-limiter.result r (told-yes same-is c.if-not-are_same.false) (told-no c.has_valid_peers.ensures c.if-not-has_valid_peers.true))

pub returns : goal.returns
returns c =
    let a = c.args in
    let few = few-says _ (told-yes c.are_few.ensures c.if-not-are_few.false) in
    let r = reads a.image.now a.found c.requires few _ c.read_table.ensures c.limiter_of-limiter.result c.limiter_of-limiter.ensures in
    let same-is = c.are_same.ensures ∙ (λ i. same (c.settings_words-again.ensures i) (read a.image.now a.found c.requires few _ c.read_table.ensures i)) in
    let q = told-yes same-is c.if-not-are_same.false in
    ap (λ (x : Loaded). given x)
    ((λ i. record { limiter = c.limiter_of-limiter.result; peers = c.peers_of-peers.ensures i })
    ∙ values-read _ _ c.requires few c.limiter_of-limiter.result r q)
    ∙ alone-yes 13 _
    (is-image _ _ c.requires few c.limiter_of-limiter.result r q (all-bytes a.image.now (λ i. omega (arith, c.type_inv.image i)))
    (told-yes (c.is_end.ensures ∙ ap (λ (k : ℕ). is_end k (drop a.found.contested.end a.image.now)) c.count_in.ensures) c.if-not-is_end.false)
    (told-yes c.has_valid_limiter.ensures c.if-not-has_valid_limiter.false)
    (told-yes c.has_valid_peers.ensures c.if-not-has_valid_peers.false))
