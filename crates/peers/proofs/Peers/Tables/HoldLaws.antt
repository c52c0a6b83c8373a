-- Laws: a peer's record with a hold.
use Rattle.std.proofs.Common.{◌≡◌, ℕ, ◌+◌, ◌*◌, ◌<◌, true, List, [], ◌∷◌, map, length, get_or, drop, set, sym, refl, ap, ◌∙◌, arith, length-set, get_or-set_same, drop-set-lt, set-set}
use Rattle.records.specs.declared.Found.TheVariants.{At, Gap}
use Rattle.records.specs.Records.{records, overwrite_at, find_in}
use Rattle.records.proofs.Words.RecordLaws.{row, length-records}
use Rattle.questions.specs.Lists.{those, replaced}
use Rattle.peers.specs.Peers.Records.{Snapshot, peer_of, peer_words}
use Rattle.records.specs.Typed.{exact, first_word, Tabled}
use Rattle.peers.specs.Peers.Changes.{hold}
use Rattle.records.proofs.Tables.TabledLaws.{InOrder, found_inside, found-one, found_none, found-at-splice, found-gap-splice, table_of}
use Rattle.records.proofs.Changes.KeepLaws.{overwrite-set, records-set}
use Rattle.records.proofs.Tables.TypedLaws.{exact-record}
use Rattle.std.specs.declared.option.Option.{Option}
use Rattle.std.specs.declared.option.Option.TheVariants.{None, Some}

hold-words : (id until : ℕ) (held : Option ℕ) (taken : Option Snapshot) (past : List ℕ) → peer_words (hold until (record { id = id; held_until = held; snapshot = taken; past_epochs = past })) ≡ set (set (peer_words (record { id = id; held_until = held; snapshot = taken; past_epochs = past })) 1 1) 2 until
unfolding peer_words
hold-words id until None taken past = refl
hold-words id until (Some t) taken past = refl

module _ (n id until : ℕ) (xs : List ℕ) (o : InOrder 12 1 n xs) (e : exact peer_words peer_of (records 12 n xs) ≡ true) (i : ℕ) where
  abbrev held : List ℕ → List ℕ
  held x = peer_words (hold until (peer_of x))

  abbrev after : List (List ℕ)
  after = replaced first_word id (map held (those first_word id (records 12 n xs))) (records 12 n xs)

  pub held_at : At i ≡ find_in 12 1 n id 0 xs → Tabled n after xs (set (set xs (i * 12 + 1) 1) (i * 12 + 2) until)
  unfolding overwrite_at
  held_at f =
      let rs : List (List ℕ) = records 12 n xs in
      let x : List ℕ = get_or rs i [] in
      let h : i < n = (found_inside 12 n id xs o i f).0 in
      let hl : i < length rs = omega (arith, length-records 12 n xs) in
      let ys : List ℕ = set xs (i * 12 + 1) 1 in
      let zs : List ℕ = set ys (i * 12 + 2) until in
      let two : records 12 n zs ≡ set rs i (set (set x 1 1) 2 until) =
      records-set 12 n i 2 until ys h (omega arith)
      ∙ ap (λ (l : List (List ℕ)). set l i (set (get_or l i []) 2 until)) (records-set 12 n i 1 1 xs h (omega arith))
      ∙ ap (λ (r : List ℕ). set (set rs i (set x 1 1)) i (set r 2 until)) (get_or-set_same rs i (set x 1 1) [] hl)
      ∙ set-set rs i (set x 1 1) (set (set x 1 1) 2 until) in
      let words : held x ≡ set (set x 1 1) 2 until =
      hold-words (peer_of x).id until (peer_of x).held_until (peer_of x).snapshot (peer_of x).past_epochs ∙ ap (λ (r : List ℕ). set (set r 1 1) 2 until) (exact-record peer_words peer_of rs e i hl) in
      let new : after ≡ set rs i (set (set x 1 1) 2 until) =
      ap (λ (l : List (List ℕ)). replaced first_word id (map held l) rs) (found-one 12 n id xs o i f)
      ∙ found-at-splice 12 n id xs o i f (held x ∷ [])
      ∙ overwrite-set i (held x) rs hl
      ∙ ap (set rs i) words in
      let past : drop (n * 12) zs ≡ drop (n * 12) xs =
      drop-set-lt (n * 12) ys (i * 12 + 2) until (omega (arith, row 12 n i h)) ∙ drop-set-lt (n * 12) xs (i * 12 + 1) 1 (omega (arith, row 12 n i h)) in
      record {
        count = sym (ap length new ∙ length-set rs i (set (set x 1 1) 2 until) ∙ length-records 12 n xs);
        words = table_of 12 n after xs zs (omega (arith, length-set xs (i * 12 + 1) 1, length-set ys (i * 12 + 2) until, o.words)) (two ∙ sym new) past;
      }

  pub held-gap : Gap i ≡ find_in 12 1 n id 0 xs → Tabled n after xs xs
  held-gap f =
      let rs : List (List ℕ) = records 12 n xs in
      let new : after ≡ rs =
      ap (λ (l : List (List ℕ)). replaced first_word id (map held l) rs) (found_none 12 n id xs o i f) ∙ found-gap-splice 12 n id xs o i f in
      record { count = sym (ap length new ∙ length-records 12 n xs); words = table_of 12 n after xs xs o.words (sym new) refl }
