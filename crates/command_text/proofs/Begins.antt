-- Bytes that begin with others, and what follows from an error.
use Rattle.std.proofs.Common.{◌≡◌, ℕ, List, [], ◌∷◌, ◌++◌, length, take, drop, Option, Some, None, IfSome, Result, Ok, Err, IfOk, IfErr, OnErr, refl, ap, sym, ◌∙◌}
use Rattle.std.specs.Option.{ok_or}
use Rattle.std.proofs.lemmas.List.{take-append-drop, append_assoc}
use Rattle.command_text.specs.Replies.{StandsInFront}

take_front : (front rest : List ℕ) → take (length front) (front ++ rest) ≡ front
take_front [] rest = refl
take_front (byte ∷ front) rest = ap (λ (l : List ℕ). byte ∷ l) (take_front front rest)

pub begins_more : (bytes front more : List ℕ) → bytes ≡ front ++ more → StandsInFront bytes front
begins_more bytes front more is =
    ap (λ (l : List ℕ). take (length front) l) is ∙ take_front front more

-- bytes that begin with some that begin with others begin with those
pub begins_on :
    (bytes middle front : List ℕ) → StandsInFront bytes middle → StandsInFront middle front → StandsInFront bytes front
begins_on bytes middle front late early =
    let outer : bytes ≡ middle ++ drop (length middle) bytes =
    sym (take-append-drop (length middle) bytes)
    ∙ ap (λ (l : List ℕ). l ++ drop (length middle) bytes) late in
    let inner : middle ≡ front ++ drop (length front) middle =
    sym (take-append-drop (length front) middle)
    ∙ ap (λ (l : List ℕ). l ++ drop (length front) middle) early in
    begins_more bytes front (drop (length front) middle ++ drop (length middle) bytes)
    (outer ∙ ap (λ (l : List ℕ). l ++ drop (length middle) bytes) inner ∙ append_assoc front (drop (length front) middle) (drop (length middle) bytes))

pub on_err : {T E : Type 0} (r : Result T E) {P : Type 0} → P → OnErr r P
on_err (Ok x) p = tt
on_err (Err e) p = p

pub if_err : {T E : Type 0} (r : Result T E) {P : Type 0} → P → IfErr r (λ _. P)
if_err (Ok x) p = tt
if_err (Err e) p = p

-- what follows from what holds of a value, and what follows from what holds after an error
pub on_ok :
    {T E : Type 0} {P Q : T → Type 0} (r : Result T E) → ((x : T) → P x → Q x) → IfOk r P → IfOk r Q
on_ok (Ok x) f p = f x p
on_ok (Err e) f p = tt

pub on_if_err :
    {T E : Type 0} {P Q : Type 0} (r : Result T E) → (P → Q) → IfErr r (λ _. P) → IfErr r (λ _. Q)
on_if_err (Ok x) f p = tt
on_if_err (Err e) f p = f p

pub on_some :
    {T E : Type 0} {P Q : T → Type 0} (o : Option T) (e : E) → ((x : T) → P x → Q x) → IfSome o P
    → IfOk (ok_or o e) Q
on_some (Some x) e f p = f x p
on_some None e f p = tt
