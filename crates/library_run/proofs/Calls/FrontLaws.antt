-- The first words of a buffer are the value: words that are lent, and words that come back.
use Prim.Native.Nat.{ℕ, ◌≤◌}
use mathlib.Core.Path.{◌≡◌, sym, ap, ◌∙◌}
use mathlib.Core.Bool.{true}
use mathlib.Core.List.{List, ◌++◌}
use native.Mathlib.Omega.{arith}
use lib.ListN.{length, take, drop, length-append, take-append-drop, get_or-append}
use lib.Seq.{take-append-le}
use Rattle.records.specs.Words.{paste}
use Rattle.records.specs.Records.{same}
use Rattle.peers.specs.declared.peer_demand.PeerDemand.{PeerDemand}
use Rattle.limiter.specs.declared.Limiter.{Limiter}
use Rattle.image.proofs.Saving.PutLaws.{length-pasted}
use Rattle.run.specs.Run.{put_back}
use Rattle.nultiway.specs.Values.{limiter_words, limiter_of, is_limiter, peers_words, peers_of}
use Rattle.nultiway.proofs.Words.ValueLaws.{Typed, limiter-put, limiter-is, limiter-long, peers-put}

-- ---- whatever comes after them

module _ (xs ys : List ℕ) where
  pub limiter-front : 16 ≤ length xs → limiter_of (xs ++ ys) ≡ limiter_of xs
  unfolding limiter_of
  limiter-front h =
      rw (
        take-append-le 13 xs ys (omega (arith, h)),
        get_or-append xs ys 0 13 (omega (arith, h)),
        get_or-append xs ys 0 14 (omega (arith, h)),
        get_or-append xs ys 0 15 (omega (arith, h)),
      )

  pub is-limiter-front : 16 ≤ length xs → is_limiter (xs ++ ys) ≡ is_limiter xs
  unfolding is_limiter
  is-limiter-front h = λ i. same (limiter_words (limiter-front h i)) (take-append-le 16 xs ys h i)

  pub peers-front : 3 ≤ length xs → peers_of (xs ++ ys) ≡ peers_of xs
  unfolding peers_of
  peers-front h =
      rw (get_or-append xs ys 0 0 (omega (arith, h)), get_or-append xs ys 0 1 (omega (arith, h)), get_or-append xs ys 0 2 (omega (arith, h)))

-- ---- words that are lent

module _ (n : ℕ) (ws : List ℕ) where
  pub limiter-lent : 16 ≤ length (take n ws) → limiter_of (take n ws) ≡ limiter_of ws
  limiter-lent h = sym (limiter-front (take n ws) (drop n ws) h) ∙ ap limiter_of (take-append-drop n ws)

  pub is-limiter-lent : 16 ≤ length (take n ws) → is_limiter (take n ws) ≡ is_limiter ws
  is-limiter-lent h = sym (is-limiter-front (take n ws) (drop n ws) h) ∙ ap is_limiter (take-append-drop n ws)

  pub peers-lent : 3 ≤ length (take n ws) → peers_of (take n ws) ≡ peers_of ws
  peers-lent h = sym (peers-front (take n ws) (drop n ws) h) ∙ ap peers_of (take-append-drop n ws)

-- ---- words that were written and come back

module _ (l : Limiter) (part whole : List ℕ) (h : 16 ≤ length part) where
  abbrev written : List ℕ
  written = paste 0 (limiter_words l) part

  pub limiter-as-long : length (paste 0 (limiter_words l) part) ≡ length part
  limiter-as-long = length-pasted 0 (limiter_words l) part (omega (arith, limiter-long l, h))

  pub limiter-written-long : 16 ≤ length (paste 0 (limiter_words l) part)
  limiter-written-long = omega (arith, limiter-as-long, h)

  pub limiter-long-back : 16 ≤ length (put_back (paste 0 (limiter_words l) part) whole)
  limiter-long-back = omega (arith, length-append written (drop (length written) whole), limiter-written-long)

  module _ (y : Typed l) where
    pub limiter-back : limiter_of (put_back (paste 0 (limiter_words l) part) whole) ≡ l
    limiter-back = limiter-front written (drop (length written) whole) limiter-written-long ∙ limiter-put l part y

    pub is-limiter-back : is_limiter (put_back (paste 0 (limiter_words l) part) whole) ≡ true
    is-limiter-back = is-limiter-front written (drop (length written) whole) limiter-written-long ∙ limiter-is l part y

module _ (p : PeerDemand) (part whole : List ℕ) (h : 3 ≤ length part) where
  abbrev peers_written : List ℕ
  peers_written = paste 0 (peers_words p) part

  pub peers-as-long : length (paste 0 (peers_words p) part) ≡ length part
  unfolding peers_words
  peers-as-long = length-pasted 0 (peers_words p) part h

  pub peers-written-long : 3 ≤ length (paste 0 (peers_words p) part)
  peers-written-long = omega (arith, peers-as-long, h)

  pub peers-long-back : 3 ≤ length (put_back (paste 0 (peers_words p) part) whole)
  peers-long-back = omega (arith, length-append peers_written (drop (length peers_written) whole), peers-written-long)

  pub peers-back : peers_of (put_back (paste 0 (peers_words p) part) whole) ≡ p
  peers-back = peers-front peers_written (drop (length peers_written) whole) peers-written-long ∙ peers-put p part
