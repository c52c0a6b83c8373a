use Rattle.std.proofs.Common.{refl, ap, ◌∙◌}
use borrow.Author.Tests.{le-leb, lt-leb}
use Rattle.questions.proofs.Tests.{and_intro, and_first, and_second, told-no, told-yes}
use Rattle.questions.proofs.Answers.{first-no, first-yes, first-none}
use Rattle.limiter.specs.declared.Limiter.{Limiter}
use Rattle.limiter.specs.State.{have_room}
use Rattle.nultiway.proofs.values.ask_limiter.Goals as goal

pub returns-then-words-lt-LIMITER_WORDS : goal.returns-then-words-lt-LIMITER_WORDS
returns-then-words-lt-LIMITER_WORDS c = first-no 1 _ (and_first _ _ (lt-leb _ _ c.if-words-lt-LIMITER_WORDS.true))

pub returns-then-not-room : goal.returns-then-not-room
returns-then-not-room c = first-no 1 _ (and_second _ _ (and_second _ _ (told-no refl c.if-not-room.true)))

-- the sizes are those of the words
pub returns-then-not-have_room : goal.returns-then-not-have_room
returns-then-not-have_room c =
    let a = c.args in
    let told = c.have_room.ensures ∙ ap (λ (l : Limiter). have_room l.config (record { keys = a.keys; hot = a.hot; shadows = a.shadows })) c.limiter_of-limiter.ensures in
    first-no 1 _ (and_second _ _ (and_first _ _ (told-no told c.if-not-have_room.true)))

pub is_limiter-requires : goal.is_limiter-requires
is_limiter-requires c = (c.if-words-lt-LIMITER_WORDS.false, c.limiter_of-limiter.ensures)

pub returns-then-not-is_limiter : goal.returns-then-not-is_limiter
returns-then-not-is_limiter c =
    let a = c.args in
    let told = c.have_room.ensures ∙ ap (λ (l : Limiter). have_room l.config (record { keys = a.keys; hot = a.hot; shadows = a.shadows })) c.limiter_of-limiter.ensures in
    first-yes 1 _
    (and_intro _ _ (le-leb _ _ c.if-words-lt-LIMITER_WORDS.false) (and_intro _ _ (told-yes told c.if-not-have_room.false) (told-yes refl c.if-not-room.false)))
    (first-no 2 _ (told-no c.is_limiter.ensures c.if-not-is_limiter.true))

pub returns : goal.returns
returns c =
    let a = c.args in
    let told = c.have_room.ensures ∙ ap (λ (l : Limiter). have_room l.config (record { keys = a.keys; hot = a.hot; shadows = a.shadows })) c.limiter_of-limiter.ensures in
    first-yes 1 _
    (and_intro _ _ (le-leb _ _ c.if-words-lt-LIMITER_WORDS.false) (and_intro _ _ (told-yes told c.if-not-have_room.false) (told-yes refl c.if-not-room.false)))
    (first-yes 2 _ (told-yes c.is_limiter.ensures c.if-not-is_limiter.false) first-none)
