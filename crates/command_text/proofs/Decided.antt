-- Each line spells a command or none.
use Rattle.std.proofs.Common.{◌≡◌, ◌≢◌, ℕ, ◌<◌, ◌≤◌, ◌↔◌, Bool, true, false, ◌⊎◌, inl, inr, List, [], ◌∷◌, ◌++◌, if◌then◌else◌, map, get_or, drop, Option, Some, None, refl, sym, ap, ap₂, ◌∙◌, subst, arith}
use Rattle.std.specs.Str.{bytes_eq}
use Rattle.std.proofs.lemmas.Bool.{cases_eq, cases_lt}
use Rattle.std.proofs.lemmas.Slice.Eq.{bytes_eq-Decides}
use Rattle.std.proofs.lemmas.List.Elements.{All-nil, All-cons}
use Rattle.short_numbers.specs.Numbers.{IsNumber, number}
use Rattle.tile_model.specs.declared.Letter.{Letter}
use Rattle.tile_model.specs.declared.Letter.TheVariants.{L, R, X}
use Rattle.tile_model.specs.WalkTexts.{letter_code, walk_text}
use Rattle.reply_model.specs.declared.Command.{Command}
use Rattle.reply_model.specs.Histories.{most_walkers}
use Rattle.reply_model.specs.declared.Command.TheVariants.{New, Go, At, Same, Level, Dist, Path}
use Rattle.reply_model.specs.declared.Command.TheVariants.{Put, Get, Ring, Count}
use Rattle.command_text.specs.CommandLines.{space, IsWalkerNumber, one_walker, two_walkers, walker_and_walk, walker_and_text, one_distance, verb_text, verb_of, operands_of, IsSpelling, SpellsNothing}
use Rattle.command_text.specs.Words.{Lacks, IsInFront, AreToldBy, walker_alone, walkers, walker_with_walk, walker_with_text, distance_alone, TellNothing, IsCommandOf, IsNoCommandOf}
use Rattle.command_text.specs.declared.command.Verb.{Verb}
use Rattle.command_text.specs.declared.command.Verb.TheVariants.{New as NewVerb, Go as GoVerb, At as AtVerb, Same as SameVerb, Level as LevelVerb, Dist as DistVerb, Path as PathVerb}
use Rattle.command_text.specs.declared.command.Verb.TheVariants.{Put as PutVerb, Get as GetVerb, Ring as RingVerb, Count as CountVerb}
use Rattle.command_text.proofs.Splits.{lacks_none, one_split}
use Rattle.command_text.proofs.Numbers.{walker_lacks}
use Rattle.command_text.proofs.Operands.{NoFront, tells_walker, tells_walkers, tells_walk, tells_text, tells_distance, tell_no_walker, no_front_walkers, no_front_walk, no_front_text, tell_no_second, tell_no_walk, tell_no_distance}
use Rattle.command_text.proofs.Forms.{form, verbs, find, is_word, no_command, spells, spells_none, unknown, one_word}

-- bytes, cut at the first space, if there is one
pub record IsCut (bytes : List ℕ) : Type 0 where
  pub front : List ℕ
  pub rest : List ℕ
  pub split : bytes ≡ front ++ space ∷ rest
  pub lacks : Lacks space front

cut : (bytes : List ℕ) → IsCut bytes ⊎ Lacks space bytes
cut [] = inr (All-nil (λ b. b ≢ space))
cut (byte ∷ bytes) = go (cases_eq byte space) (cut bytes) where
  behind :
      byte ≢ space → IsCut bytes ⊎ Lacks space bytes
      → IsCut (byte ∷ bytes) ⊎ Lacks space (byte ∷ bytes)
  behind other (inl c) = inl (record {
    front = byte ∷ c.front;
    rest = c.rest;
    split = ap (λ (l : List ℕ). byte ∷ l) c.split;
    lacks = All-cons (λ b. b ≢ space) byte c.front other c.lacks;
  })
  behind other (inr lacks) = inr (All-cons (λ b. b ≢ space) byte bytes other lacks)

  go :
      (byte ≡ space) ⊎ (byte ≢ space) → IsCut bytes ⊎ Lacks space bytes
      → IsCut (byte ∷ bytes) ⊎ Lacks space (byte ∷ bytes)
  go (inl is) _ =
      inl (record { front = []; rest = bytes; split = ap (λ (b : ℕ). b ∷ bytes) is; lacks = All-nil (λ b. b ≢ space) })
  go (inr other) tail = behind other tail

-- the letters of bytes, if each byte is the code of one
code_or :
    (byte : ℕ) → ((x : Letter) × (letter_code x ≡ byte)) ⊎ ((x : Letter) → letter_code x ≢ byte)
code_or byte = go (cases_eq byte 76) (cases_eq byte 82) (cases_eq byte 88) where
  go :
      (byte ≡ 76) ⊎ (byte ≢ 76) → (byte ≡ 82) ⊎ (byte ≢ 82) → (byte ≡ 88) ⊎ (byte ≢ 88)
      → ((x : Letter) × (letter_code x ≡ byte)) ⊎ ((x : Letter) → letter_code x ≢ byte)
  go (inl is) _ _ = inl (L, sym is)
  go (inr _) (inl is) _ = inl (R, sym is)
  go (inr _) (inr _) (inl is) = inl (X, sym is)
  go (inr not_left) (inr not_right) (inr not_across) = inr none where
    none : (x : Letter) → letter_code x ≢ byte
    none L = λ e. not_left (sym e)
    none R = λ e. not_right (sym e)
    none X = λ e. not_across (sym e)

letters_or :
    (bytes : List ℕ)
    → ((walk : List Letter) × (map letter_code walk ≡ bytes)) ⊎
    ((walk : List Letter) → map letter_code walk ≢ bytes)
letters_or [] = inl ([], refl)
letters_or (byte ∷ bytes) = go (code_or byte) (letters_or bytes) where
  go :
      ((x : Letter) × (letter_code x ≡ byte)) ⊎ ((x : Letter) → letter_code x ≢ byte)
      → ((walk : List Letter) × (map letter_code walk ≡ bytes)) ⊎
      ((walk : List Letter) → map letter_code walk ≢ bytes)
      → ((walk : List Letter) × (map letter_code walk ≡ byte ∷ bytes)) ⊎
      ((walk : List Letter) → map letter_code walk ≢ byte ∷ bytes)
  go (inl x) (inl walk) = inl (x.0 ∷ walk.0, ap₂ (λ (b : ℕ) (l : List ℕ). b ∷ l) x.1 walk.1)
  go (inr none) _ = inr (λ walk. no_first walk) where
    no_first : (walk : List Letter) → map letter_code walk ≢ byte ∷ bytes
    no_first [] e = absurd (cc)
    no_first (x ∷ walk) e = none x (ap (λ (l : List ℕ). get_or l 0 0) e)
  go (inl x) (inr none) = inr (λ walk. no_rest walk) where
    no_rest : (walk : List Letter) → map letter_code walk ≢ byte ∷ bytes
    no_rest [] e = absurd (cc)
    no_rest (y ∷ walk) e = none walk (ap (λ (l : List ℕ). drop 1 l) e)

walk_or :
    (bytes : List ℕ)
    → ((walk : List Letter) × (walk_text walk ≡ bytes)) ⊎
    ((walk : List Letter) → walk_text walk ≢ bytes)
walk_or [] = inr none where
  none : (walk : List Letter) → walk_text walk ≢ []
  none [] e = absurd (cc)
  none (x ∷ walk) e = absurd (cc)
walk_or (byte ∷ bytes) = go (cases_eq byte 45) (letters_or (byte ∷ bytes)) bytes refl where
  no_walk :
      ((walk : List Letter) → map letter_code walk ≢ byte ∷ bytes) → 45 ∷ [] ≢ byte ∷ bytes
      → (walk : List Letter) → walk_text walk ≢ byte ∷ bytes
  no_walk none other [] = other
  no_walk none other (x ∷ walk) = none (x ∷ walk)

  some_walk :
      (walk : List Letter) → map letter_code walk ≡ byte ∷ bytes → walk_text walk ≡ byte ∷ bytes
  some_walk [] e = absurd (cc)
  some_walk (x ∷ walk) e = e

  go :
      (byte ≡ 45) ⊎ (byte ≢ 45)
      → ((walk : List Letter) × (map letter_code walk ≡ byte ∷ bytes)) ⊎
      ((walk : List Letter) → map letter_code walk ≢ byte ∷ bytes)
      → (l : List ℕ) → l ≡ bytes
      → ((walk : List Letter) × (walk_text walk ≡ byte ∷ bytes)) ⊎
      ((walk : List Letter) → walk_text walk ≢ byte ∷ bytes)
  go _ (inl walk) l e = inl (walk.0, some_walk walk.0 walk.1)
  go (inl is) (inr none) [] e = inl ([], ap₂ (λ (b : ℕ) (t : List ℕ). b ∷ t) (sym is) e)
  go (inl is) (inr none) (b ∷ l) e = inr (no_walk none (λ f. absurd (cc (e, f))))
  go (inr other) (inr none) l e =
      inr (no_walk none (λ f. other (sym (ap (λ (t : List ℕ). get_or t 0 0) f))))

-- a verb that has the word, if there is one
find_or :
    (word : List ℕ) (l : List Verb)
    → ((verb : Verb) × (word ≡ verb_text verb)) ⊎ (find word l ≡ None)
find_or word [] = inr refl
find_or word (verb ∷ l) = go (bytes_eq word (verb_text verb)) refl (find_or word l) where
  go :
      (b : Bool) → bytes_eq word (verb_text verb) ≡ b
      → ((verb : Verb) × (word ≡ verb_text verb)) ⊎ (find word l ≡ None)
      → ((v : Verb) × (word ≡ verb_text v)) ⊎
      ((if bytes_eq word (verb_text verb) then Some verb else find word l) ≡ None)
  go true e _ = inl (verb, (bytes_eq-Decides word (verb_text verb)).0 e)
  go false e (inl found) = inl found
  go false e (inr none) =
      inr (ap (λ (b : Bool). if b then Some verb else find word l) e ∙ none)

not_found : (word : List ℕ) → find word verbs ≡ None → (verb : Verb) → word ≢ verb_text verb
not_found word none verb is =
    let found = sym (is_word verb).found ∙ ap (λ (l : List ℕ). find l verbs) (sym is) ∙ none in
    absurd (cc found)

module _ (law : (digits : List ℕ) (n : ℕ) → IsNumber digits n ↔ (number digits ≡ Some n)) where
  walker_or :
      (digits : List ℕ)
      → ((w : ℕ) × IsWalkerNumber digits w) ⊎ ((w : ℕ) → ¬ (IsWalkerNumber digits w))
  walker_or digits = go (number digits) refl where
    other : (n w : ℕ) → number digits ≡ Some n → IsWalkerNumber digits w → n ≡ w
    other n w e is = the_same n w (sym e ∙ (law digits w).0 is.number) where
      the_same : (n w : ℕ) → Some n ≡ Some w → n ≡ w
      the_same n w f = cc f

    below :
        (n : ℕ) → number digits ≡ Some n → (n < most_walkers) ⊎ (most_walkers ≤ n)
        → ((w : ℕ) × IsWalkerNumber digits w) ⊎ ((w : ℕ) → ¬ (IsWalkerNumber digits w))
    below n e (inl small) = inl (n, record { number = (law digits n).1 e; below = small })
    below n e (inr large) = inr (λ w is. absurd (omega (arith, large, is.below, other n w e is)))

    go :
        (o : Option ℕ) → number digits ≡ o
        → ((w : ℕ) × IsWalkerNumber digits w) ⊎ ((w : ℕ) → ¬ (IsWalkerNumber digits w))
    go None e = inr (λ w is. absurd (cc (sym e ∙ (law digits w).0 is.number)))
    go (Some n) e = below n e (cases_lt n most_walkers)

  -- a number of a walker in front of the first space
  pub record IsFront (bytes : List ℕ) : Type 0 where
    pub walker : ℕ
    pub rest : List ℕ
    pub in_front : IsInFront bytes walker rest

  front_or :
      (bytes : List ℕ) → IsFront bytes ⊎ NoFront bytes
  front_or bytes = go (cut bytes) where
    behind :
        (c : IsCut bytes)
        → ((w : ℕ) × IsWalkerNumber c.front w) ⊎ ((w : ℕ) → ¬ (IsWalkerNumber c.front w))
        → IsFront bytes ⊎ NoFront bytes
    behind c (inl w) =
        inl (record { walker = w.0; rest = c.rest; in_front = record { digits = c.front; number = w.1; text = c.split } })
    behind c (inr none) = inr (λ w rest is.
        let same =
        one_split space is.digits c.front rest c.rest (walker_lacks is.digits w is.number) c.lacks
        (sym is.text ∙ c.split) in
        none w (subst (λ (l : List ℕ). IsWalkerNumber l w) same.0 is.number))

    go :
        IsCut bytes ⊎ Lacks space bytes
        → IsFront bytes ⊎ NoFront bytes
    go (inl c) = behind c (walker_or c.front)
    go (inr lacks) = inr (λ w rest is. lacks_none space bytes is.digits rest lacks is.text)

  -- what bytes tell, by each shape
  tell_walker :
      (bytes : List ℕ) → ((w : ℕ) × AreToldBy bytes (one_walker w)) ⊎ TellNothing bytes walker_alone
  tell_walker bytes = go (walker_or bytes) where
    go :
        ((w : ℕ) × IsWalkerNumber bytes w) ⊎ ((w : ℕ) → ¬ (IsWalkerNumber bytes w))
        → ((w : ℕ) × AreToldBy bytes (one_walker w)) ⊎ TellNothing bytes walker_alone
    go (inl w) = inl (w.0, tells_walker bytes w.0 w.1)
    go (inr none) = inr (tell_no_walker bytes none)

  tell_walkers :
      (bytes : List ℕ)
      → ((p : ℕ × ℕ) × AreToldBy bytes (two_walkers p.0 p.1)) ⊎ TellNothing bytes walkers
  tell_walkers bytes = go (front_or bytes) where
    second :
        (f : IsFront bytes)
        → ((v : ℕ) × IsWalkerNumber f.rest v) ⊎ ((v : ℕ) → ¬ (IsWalkerNumber f.rest v))
        → ((p : ℕ × ℕ) × AreToldBy bytes (two_walkers p.0 p.1)) ⊎ TellNothing bytes walkers
    second f (inl v) = inl ((f.walker, v.0), tells_walkers bytes f.rest f.walker v.0 f.in_front v.1)
    second f (inr none) = inr (tell_no_second bytes f.rest f.walker f.in_front none)

    go :
        IsFront bytes ⊎ NoFront bytes
        → ((p : ℕ × ℕ) × AreToldBy bytes (two_walkers p.0 p.1)) ⊎ TellNothing bytes walkers
    go (inl f) = second f (walker_or f.rest)
    go (inr none) = inr (no_front_walkers bytes none)

  tell_walk :
      (bytes : List ℕ)
      → ((p : ℕ × List Letter) × AreToldBy bytes (walker_and_walk p.0 p.1)) ⊎ TellNothing bytes
      walker_with_walk
  tell_walk bytes = go (front_or bytes) where
    second :
        (f : IsFront bytes)
        → ((walk : List Letter) × (walk_text walk ≡ f.rest)) ⊎
        ((walk : List Letter) → walk_text walk ≢ f.rest)
        → ((p : ℕ × List Letter) × AreToldBy bytes (walker_and_walk p.0 p.1)) ⊎ TellNothing bytes
        walker_with_walk
    second f (inl walk) =
        inl ((f.walker, walk.0), tells_walk bytes f.rest f.walker walk.0 f.in_front walk.1)
    second f (inr none) = inr (tell_no_walk bytes f.rest f.walker f.in_front none)

    go :
        IsFront bytes ⊎ NoFront bytes
        → ((p : ℕ × List Letter) × AreToldBy bytes (walker_and_walk p.0 p.1)) ⊎ TellNothing bytes
        walker_with_walk
    go (inl f) = second f (walk_or f.rest)
    go (inr none) = inr (no_front_walk bytes none)

  tell_text :
      (bytes : List ℕ)
      → ((p : ℕ × List ℕ) × AreToldBy bytes (walker_and_text p.0 p.1)) ⊎ TellNothing bytes
      walker_with_text
  tell_text bytes = go (front_or bytes) where
    go :
        IsFront bytes ⊎ NoFront bytes
        → ((p : ℕ × List ℕ) × AreToldBy bytes (walker_and_text p.0 p.1)) ⊎ TellNothing bytes
        walker_with_text
    go (inl f) = inl ((f.walker, f.rest), tells_text bytes f.rest f.walker f.rest f.in_front refl)
    go (inr none) = inr (no_front_text bytes none)

  tell_distance :
      (bytes : List ℕ)
      → ((d : ℕ) × AreToldBy bytes (one_distance d)) ⊎ TellNothing bytes distance_alone
  tell_distance bytes = go (number bytes) refl where
    go :
        (o : Option ℕ) → number bytes ≡ o
        → ((d : ℕ) × AreToldBy bytes (one_distance d)) ⊎ TellNothing bytes distance_alone
    go None e =
        inr (tell_no_distance bytes (λ d is. absurd (cc (sym e ∙ (law bytes d).0 is))))
    go (Some d) e = inl (d, tells_distance bytes d ((law bytes d).1 e))

  -- a command of a verb is told, or none is
  abbrev Told : Verb → List ℕ → Type 0
  Told verb bytes = ((c : Command) × IsCommandOf verb bytes c) ⊎ IsNoCommandOf verb bytes

  by_shape :
      {X : Type 0} (verb : Verb) (bytes : List ℕ) (command : X → Command)
      → ((x : X) → verb_of (command x) ≡ verb)
      → ((x : X) × AreToldBy bytes (operands_of (command x))) ⊎ TellNothing bytes (form verb).shape
      → Told verb bytes
  by_shape verb bytes command of_verb (inl told) =
      inl (command told.0, record { of_verb = of_verb told.0; told = told.1 })
  by_shape verb bytes command of_verb (inr none) = inr (no_command verb verb bytes refl none)

  by_verb : (verb : Verb) (bytes : List ℕ) → Told verb bytes
  by_verb NewVerb bytes = by_shape NewVerb bytes New (λ w. refl) (tell_walker bytes)
  by_verb GoVerb bytes = by_shape GoVerb bytes (λ p. Go p.0 p.1) (λ p. refl) (tell_walk bytes)
  by_verb AtVerb bytes = by_shape AtVerb bytes At (λ w. refl) (tell_walker bytes)
  by_verb SameVerb bytes = by_shape SameVerb bytes (λ p. Same p.0 p.1) (λ p. refl) (tell_walkers bytes)
  by_verb LevelVerb bytes = by_shape LevelVerb bytes Level (λ w. refl) (tell_walker bytes)
  by_verb DistVerb bytes = by_shape DistVerb bytes (λ p. Dist p.0 p.1) (λ p. refl) (tell_walkers bytes)
  by_verb PathVerb bytes = by_shape PathVerb bytes (λ p. Path p.0 p.1) (λ p. refl) (tell_walkers bytes)
  by_verb PutVerb bytes = by_shape PutVerb bytes (λ p. Put p.0 p.1) (λ p. refl) (tell_text bytes)
  by_verb GetVerb bytes = by_shape GetVerb bytes Get (λ w. refl) (tell_walker bytes)
  by_verb RingVerb bytes = by_shape RingVerb bytes Ring (λ d. refl) (tell_distance bytes)
  by_verb CountVerb bytes = by_shape CountVerb bytes Count (λ d. refl) (tell_distance bytes)

  -- a line is decided
  abbrev Decided : List ℕ → Type 0
  Decided line = ((c : Command) × IsSpelling line c) ⊎ SpellsNothing line

  by_word :
      (line word rest : List ℕ) → line ≡ word ++ space ∷ rest → Lacks space word → Decided line
  by_word line word rest e lacks = go (find_or word verbs) where
    known : (verb : Verb) → word ≡ verb_text verb → Told verb rest → Decided line
    known verb is (inl told) = inl (told.0, spells line word rest verb told.0 e is told.1)
    known verb is (inr none) = inr (spells_none line word rest e lacks verb is none)

    go : ((verb : Verb) × (word ≡ verb_text verb)) ⊎ (find word verbs ≡ None) → Decided line
    go (inl found) = known found.0 found.1 (by_verb found.0 rest)
    go (inr none) = inr (unknown line word rest e lacks (not_found word none))

  pub decided : (line : List ℕ) → Decided line
  decided line = go (cut line) where
    go : IsCut line ⊎ Lacks space line → Decided line
    go (inl c) = by_word line c.front c.rest c.split c.lacks
    go (inr lacks) = inr (one_word line lacks)
