-- Bytes behind the first word tell one thing of a shape.
use Rattle.std.proofs.Common.{◌≡◌, ◌≢◌, ℕ, List, [], ◌∷◌, ◌++◌, refl, sym, ap, ap₂, ◌∙◌, subst}
use Rattle.short_numbers.specs.Numbers.{IsNumber}
use Rattle.tile_model.specs.declared.Letter.{Letter}
use Rattle.tile_model.specs.WalkTexts.{walk_text}
use Rattle.tile_model.proofs.WalkTexts.{one_walk}
use Rattle.command_text.specs.CommandLines.{space, spaced, IsWalkerNumber, Operands, one_walker, two_walkers, walker_and_walk, walker_and_text, one_distance, AreTold, by_number, by_numbers, by_number_and_letters, by_number_and_text, by_distance}
use Rattle.command_text.specs.Words.{IsInFront, AreToldBy, Shape, walker_alone, walkers, walker_with_walk, walker_with_text, distance_alone, shape_of, TellNothing}
use Rattle.command_text.proofs.Splits.{one_split}
use Rattle.command_text.proofs.Numbers.{walker_lacks, one_number, one_value}

-- the numbers and the rests in front of which they stand
pub one_front :
    (bytes : List ℕ) (w v : ℕ) (rest tail : List ℕ) → IsInFront bytes w rest
    → IsInFront bytes v tail → (w ≡ v) × (rest ≡ tail)
one_front bytes w v rest tail is is' =
    let same =
    one_split space is.digits is'.digits rest tail (walker_lacks is.digits w is.number)
    (walker_lacks is'.digits v is'.number) (sym is.text ∙ is'.text) in
    (one_number is.digits is'.digits w v same.0 is.number is'.number, same.1)

-- What bytes tell, shape by shape, read from the front.
pub record IsWalker (bytes : List ℕ) (told : Operands) : Type 0 where
  pub w : ℕ
  pub number : IsWalkerNumber bytes w
  pub is : told ≡ one_walker w

pub record AreWalkers (bytes : List ℕ) (told : Operands) : Type 0 where
  pub w : ℕ
  pub v : ℕ
  pub rest : List ℕ
  pub front : IsInFront bytes w rest
  pub number : IsWalkerNumber rest v
  pub is : told ≡ two_walkers w v

pub record IsWalkerAndWalk (bytes : List ℕ) (told : Operands) : Type 0 where
  pub w : ℕ
  pub walk : List Letter
  pub front : IsInFront bytes w (walk_text walk)
  pub is : told ≡ walker_and_walk w walk

pub record IsWalkerAndText (bytes : List ℕ) (told : Operands) : Type 0 where
  pub w : ℕ
  pub text : List ℕ
  pub front : IsInFront bytes w text
  pub is : told ≡ walker_and_text w text

pub record IsDistance (bytes : List ℕ) (told : Operands) : Type 0 where
  pub d : ℕ
  pub number : IsNumber bytes d
  pub is : told ≡ one_distance d

abbrev pub IsOfShape : Shape → List ℕ → Operands → Type 0
IsOfShape walker_alone bytes told = IsWalker bytes told
IsOfShape walkers bytes told = AreWalkers bytes told
IsOfShape walker_with_walk bytes told = IsWalkerAndWalk bytes told
IsOfShape walker_with_text bytes told = IsWalkerAndText bytes told
IsOfShape distance_alone bytes told = IsDistance bytes told

of_its_shape :
    {told : Operands} {words : List (List ℕ)} → AreTold told words
    → IsOfShape (shape_of told) (spaced words) told
of_its_shape (by_number w digits is) = record { w = w; number = is; is = refl }
of_its_shape (by_numbers w v first second is too) = record {
  w = w;
  v = v;
  rest = second;
  front = record { digits = first; number = is; text = refl };
  number = too;
  is = refl;
}
of_its_shape (by_number_and_letters w walk digits is) = record {
  w = w;
  walk = walk;
  front = record { digits = digits; number = is; text = refl };
  is = refl;
}
of_its_shape (by_number_and_text w text digits is) = record {
  w = w;
  text = text;
  front = record { digits = digits; number = is; text = refl };
  is = refl;
}
of_its_shape (by_distance d digits is) = record { d = d; number = is; is = refl }

-- bytes that tell something of a shape tell it in the way of the shape
of_shape :
    (bytes : List ℕ) (told : Operands) (shape : Shape) → shape_of told ≡ shape
    → AreToldBy bytes told → IsOfShape shape bytes told
of_shape bytes told shape s t =
    subst (λ (x : Shape). IsOfShape x bytes told) s
    (subst (λ (l : List ℕ). IsOfShape (shape_of told) l told) (sym t.text) (of_its_shape t.told))

-- what bytes tell in the way of a shape is one thing
same_of_shape :
    (shape : Shape) (bytes : List ℕ) (told also : Operands) → IsOfShape shape bytes told
    → IsOfShape shape bytes also → told ≡ also
same_of_shape walker_alone bytes told also t u =
    t.is ∙ ap one_walker (one_number bytes bytes t.w u.w refl t.number u.number) ∙ sym u.is
same_of_shape walkers bytes told also t u =
    let same = one_front bytes t.w u.w t.rest u.rest t.front u.front in
    t.is
    ∙ ap₂ two_walkers same.0 (one_number t.rest u.rest t.v u.v same.1 t.number u.number)
    ∙ sym u.is
same_of_shape walker_with_walk bytes told also t u =
    let same = one_front bytes t.w u.w (walk_text t.walk) (walk_text u.walk) t.front u.front in
    t.is ∙ ap₂ walker_and_walk same.0 (one_walk t.walk u.walk same.1) ∙ sym u.is
same_of_shape walker_with_text bytes told also t u =
    let same = one_front bytes t.w u.w t.text u.text t.front u.front in
    t.is ∙ ap₂ walker_and_text same.0 same.1 ∙ sym u.is
same_of_shape distance_alone bytes told also t u =
    t.is ∙ ap one_distance (one_value bytes t.d u.d t.number u.number) ∙ sym u.is

pub one_told :
    (bytes : List ℕ) (told also : Operands) → AreToldBy bytes told → AreToldBy bytes also
    → shape_of told ≡ shape_of also → told ≡ also
one_told bytes told also t u s =
    same_of_shape (shape_of also) bytes told also (of_shape bytes told (shape_of also) s t)
    (of_shape bytes also (shape_of also) refl u)

-- what the words behind the first one are, and that they stand behind it
pub behind_word :
    (word : List ℕ) {told : Operands} {words : List (List ℕ)} → AreTold told words
    → spaced (word ∷ words) ≡ word ++ space ∷ spaced words
behind_word word (by_number w digits is) = refl
behind_word word (by_numbers w v first second is too) = refl
behind_word word (by_number_and_letters w walk digits is) = refl
behind_word word (by_number_and_text w text digits is) = refl
behind_word word (by_distance d digits is) = refl

-- a number of a walker tells it
pub tells_walker :
    (bytes : List ℕ) (w : ℕ) → IsWalkerNumber bytes w → AreToldBy bytes (one_walker w)
tells_walker bytes w is = record { words = bytes ∷ []; told = by_number w bytes is; text = refl }

pub tells_walkers :
    (bytes rest : List ℕ) (w v : ℕ) → IsInFront bytes w rest → IsWalkerNumber rest v
    → AreToldBy bytes (two_walkers w v)
tells_walkers bytes rest w v front is = record {
  words = front.digits ∷ rest ∷ [];
  told = by_numbers w v front.digits rest front.number is;
  text = front.text;
}

pub tells_walk :
    (bytes rest : List ℕ) (w : ℕ) (walk : List Letter) → IsInFront bytes w rest
    → walk_text walk ≡ rest → AreToldBy bytes (walker_and_walk w walk)
tells_walk bytes rest w walk front is = record {
  words = front.digits ∷ walk_text walk ∷ [];
  told = by_number_and_letters w walk front.digits front.number;
  text = front.text ∙ ap (λ (l : List ℕ). front.digits ++ space ∷ l) (sym is);
}

pub tells_text :
    (bytes rest : List ℕ) (w : ℕ) (text : List ℕ) → IsInFront bytes w rest → text ≡ rest
    → AreToldBy bytes (walker_and_text w text)
tells_text bytes rest w text front is = record {
  words = front.digits ∷ text ∷ [];
  told = by_number_and_text w text front.digits front.number;
  text = front.text ∙ ap (λ (l : List ℕ). front.digits ++ space ∷ l) (sym is);
}

pub tells_distance :
    (bytes : List ℕ) (d : ℕ) → IsNumber bytes d → AreToldBy bytes (one_distance d)
tells_distance bytes d is =
    record { words = bytes ∷ []; told = by_distance d bytes is; text = refl }

-- bytes that are the number of no walker
pub tell_no_walker :
    (bytes : List ℕ) → ((w : ℕ) → ¬ (IsWalkerNumber bytes w)) → TellNothing bytes walker_alone
tell_no_walker bytes none = λ told s t.
    let is = of_shape bytes told walker_alone s t in
    none is.w is.number

-- bytes that are no number
pub tell_no_distance :
    (bytes : List ℕ) → ((d : ℕ) → ¬ (IsNumber bytes d)) → TellNothing bytes distance_alone
tell_no_distance bytes none = λ told s t.
    let is = of_shape bytes told distance_alone s t in
    none is.d is.number

-- bytes in front of which no number of a walker stands
abbrev pub NoFront : List ℕ → Type 0
NoFront bytes = (w : ℕ) (rest : List ℕ) → ¬ (IsInFront bytes w rest)

pub no_front_walkers : (bytes : List ℕ) → NoFront bytes → TellNothing bytes walkers
no_front_walkers bytes none = λ told s t.
    let is = of_shape bytes told walkers s t in
    none is.w is.rest is.front

pub no_front_walk : (bytes : List ℕ) → NoFront bytes → TellNothing bytes walker_with_walk
no_front_walk bytes none = λ told s t.
    let is = of_shape bytes told walker_with_walk s t in
    none is.w (walk_text is.walk) is.front

pub no_front_text : (bytes : List ℕ) → NoFront bytes → TellNothing bytes walker_with_text
no_front_text bytes none = λ told s t.
    let is = of_shape bytes told walker_with_text s t in
    none is.w is.text is.front

-- the number of a walker, and behind it no second one
pub tell_no_second :
    (bytes rest : List ℕ) (w : ℕ) → IsInFront bytes w rest → ((v : ℕ) → ¬ (IsWalkerNumber rest v))
    → TellNothing bytes walkers
tell_no_second bytes rest w front none = λ told s t.
    let is = of_shape bytes told walkers s t in
    let same = one_front bytes w is.w rest is.rest front is.front in
    none is.v (subst (λ (l : List ℕ). IsWalkerNumber l is.v) (sym same.1) is.number)

-- the number of a walker, and behind it the text of no walk
pub tell_no_walk :
    (bytes rest : List ℕ) (w : ℕ) → IsInFront bytes w rest
    → ((walk : List Letter) → walk_text walk ≢ rest) → TellNothing bytes walker_with_walk
tell_no_walk bytes rest w front none = λ told s t.
    let is = of_shape bytes told walker_with_walk s t in
    let same = one_front bytes w is.w rest (walk_text is.walk) front is.front in
    none is.walk (sym same.1)
