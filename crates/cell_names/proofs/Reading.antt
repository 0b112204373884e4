-- What is left of a name behind the sides that were read.
use Rattle.std.proofs.Common.{◌≡◌, ◌≢◌, ℕ, ◌+◌, ◌<◌, List, [], ◌∷◌, ◌++◌, length, refl, sym, ◌∙◌, ap, subst, arith, append_assoc, decimal, codes}
use Rattle.std.proofs.lemmas.List.{append-nil}
use Rattle.std.proofs.lemmas.List.Elements.{All-head, All-tail, All-cons, All-nil, All-push}
use Rattle.cell_names.specs.Name.{IsName}
use Rattle.cell_names.specs.Text.{dot, name_text, IsSpelling, NoDigit, SpellsNoOther}
use Rattle.cell_names.proofs.Digits.{no_side, side_unique}

-- the text of the sides behind the first
abbrev pub behind : List ℕ → List ℕ
behind [] = []
behind (side ∷ sides) = dot ∷ (decimal side ++ behind sides)

pub name_text-cons : (side : ℕ) (sides : List ℕ) → name_text (side ∷ sides) ≡ decimal side ++ behind sides
name_text-cons side [] = sym (append-nil (decimal side))
name_text-cons side (next ∷ sides) = ap (λ (l : List ℕ). decimal side ++ (dot ∷ l)) (name_text-cons next sides)

pub NoDigit-nil : NoDigit []
NoDigit-nil = λ digit rest small is. cc

pub NoDigit-dot : (rest : List ℕ) → NoDigit (dot ∷ rest)
NoDigit-dot bytes = λ digit rest small is. let head : 46 ≡ 48 + digit = cc in omega arith

pub NoDigit-behind : (sides : List ℕ) → NoDigit (behind sides)
NoDigit-behind [] = NoDigit-nil
NoDigit-behind (side ∷ sides) = NoDigit-dot (decimal side ++ behind sides)

below : (side : ℕ) (sides : List ℕ) → IsName (side ∷ sides) → side < 64
below side sides name = All-head (λ s. s < 64) side sides name

others : (side : ℕ) (sides : List ℕ) → IsName (side ∷ sides) → IsName sides
others side sides name = All-tail (λ s. s < 64) side sides name

-- `-` begins with no side
NoDigit-dash : NoDigit (codes "-")
NoDigit-dash = λ digit rest small is. let head : 45 ≡ 48 + digit = cc in omega arith

pub dash_alone : (bytes : List ℕ) (side : ℕ) (sides : List ℕ) → bytes ≡ codes "-" → IsSpelling bytes (side ∷ sides) → ⊥
dash_alone bytes side sides is spelt =
    no_side (codes "-") side (behind sides) NoDigit-dash (below side sides spelt.is_name)
    (sym is ∙ sym spelt.text ∙ name_text-cons side sides)

sides_unique : (sides rest : List ℕ) (side other : ℕ) → IsName (side ∷ sides) → IsName (other ∷ rest) → decimal side ++ behind sides ≡ decimal other ++ behind rest → side ∷ sides ≡ other ∷ rest
sides_unique [] [] side other name name' is =
    let same = side_unique side other [] [] (below side [] name) (below other [] name') NoDigit-nil NoDigit-nil is in
    ap (λ (s : ℕ). s ∷ []) same.0
sides_unique [] (next ∷ rest) side other name name' is =
    let same = side_unique side other [] (behind (next ∷ rest)) (below side [] name) (below other (next ∷ rest) name') NoDigit-nil (NoDigit-behind (next ∷ rest)) is in
    absurd (cc (same.1))
sides_unique (next ∷ sides) [] side other name name' is =
    let same = side_unique side other (behind (next ∷ sides)) [] (below side (next ∷ sides) name) (below other [] name') (NoDigit-behind (next ∷ sides)) NoDigit-nil is in
    absurd (cc (same.1))
sides_unique (next ∷ sides) (next' ∷ rest) side other name name' is =
    let same = side_unique side other (behind (next ∷ sides)) (behind (next' ∷ rest)) (below side (next ∷ sides) name) (below other (next' ∷ rest) name') (NoDigit-behind (next ∷ sides)) (NoDigit-behind (next' ∷ rest)) is in
    let tails : decimal next ++ behind sides ≡ decimal next' ++ behind rest = cc (same.1) in
    let equal = sides_unique sides rest next next' (others side (next ∷ sides) name) (others other (next' ∷ rest) name') tails in
    cc (same.0, equal)

-- no bytes spell two names
pub spelling_unique : (bytes name other : List ℕ) → IsSpelling bytes name → IsSpelling bytes other → name ≡ other
spelling_unique bytes [] [] spelt spelt' = refl
spelling_unique bytes [] (side ∷ sides) spelt spelt' = absurd (dash_alone bytes side sides (sym spelt.text) spelt')
spelling_unique bytes (side ∷ sides) [] spelt spelt' = absurd (dash_alone bytes side sides (sym spelt'.text) spelt)
spelling_unique bytes (side ∷ sides) (other ∷ rest) spelt spelt' =
    sides_unique sides rest side other spelt.is_name spelt'.is_name
    (sym (name_text-cons side sides) ∙ spelt.text ∙ sym spelt'.text ∙ name_text-cons other rest)

pub spells_no_other : (name : List ℕ) → IsName name → SpellsNoOther (name_text name) name
spells_no_other name is_name = λ other is. spelling_unique (name_text name) other name is (record { is_name = is_name; text = refl })

-- of this name the sides in `left` are not read yet, and the rest of the bytes is theirs
pub record IsLeft (read rest name : List ℕ) : Type 0 where
  pub left : List ℕ
  pub split : name ≡ read ++ left
  pub is_name : IsName left
  pub text : rest ≡ behind left

-- the names that the bytes spell are those that go on from the sides read by the rest
pub record IsReadTo (bytes read rest : List ℕ) : Type 0 where
  pub is_name : IsName read
  pub spells : (left : List ℕ) → rest ≡ behind left → name_text (read ++ left) ≡ bytes
  pub goes_on : (name : List ℕ) → IsSpelling bytes name → IsLeft read rest name

-- where the bytes are neither `-` nor begin with a side, they spell no name
pub no_name : (bytes name : List ℕ) → bytes ≢ codes "-" → ((side : ℕ) (tail : List ℕ) → side < 64 → bytes ≡ decimal side ++ tail → NoDigit tail → ⊥) → IsSpelling bytes name → ⊥
no_name bytes [] no_dash none spelt = no_dash (sym spelt.text)
no_name bytes (side ∷ sides) no_dash none spelt =
    none side (behind sides) (below side sides spelt.is_name) (sym spelt.text ∙ name_text-cons side sides) (NoDigit-behind sides)

-- what `take_side` promises where it takes this side
abbrev pub TakesSide : List ℕ → ℕ → List ℕ → Type 0
TakesSide bytes side rest = (side' : ℕ) (tail : List ℕ) → side' < 64 → bytes ≡ decimal side' ++ tail → NoDigit tail → (side ≡ side') × (rest ≡ tail)

starts : (bytes : List ℕ) (first : ℕ) (rest : List ℕ) → first < 64 → bytes ≡ decimal first ++ rest → TakesSide bytes first rest → (name : List ℕ) → IsSpelling bytes name → IsLeft (first ∷ []) rest name
starts bytes first rest small split takes [] spelt =
    absurd (no_side (codes "-") first rest NoDigit-dash small (spelt.text ∙ split))
starts bytes first rest small split takes (side ∷ sides) spelt =
    let text : bytes ≡ decimal side ++ behind sides = sym spelt.text ∙ name_text-cons side sides in
    let same = takes side (behind sides) (below side sides spelt.is_name) text (NoDigit-behind sides) in
    record { left = sides; split = ap (λ (s : ℕ). s ∷ sides) (sym same.0); is_name = others side sides spelt.is_name; text = same.1 }

pub begun : (bytes : List ℕ) (first : ℕ) (rest read : List ℕ) → first < 64 → bytes ≡ decimal first ++ rest → TakesSide bytes first rest → read ≡ first ∷ [] → IsReadTo bytes read rest
begun bytes first rest read small split takes is = subst (λ (r : List ℕ). IsReadTo bytes r rest) (sym is) (record {
  is_name = All-cons (λ s. s < 64) first [] small (All-nil (λ s. s < 64));
  spells = λ left e. name_text-cons first left ∙ ap (λ (l : List ℕ). decimal first ++ l) (sym e) ∙ sym split;
  goes_on = starts bytes first rest small split takes;
})

-- where there are more bytes, a name that goes on has a dot and a side there
pub record IsNext (read bytes name : List ℕ) (separator : ℕ) : Type 0 where
  pub side : ℕ
  pub left : List ℕ
  pub split : name ≡ read ++ side ∷ left
  pub small : side < 64
  pub is_name : IsName left
  pub is_dot : separator ≡ dot
  pub text : bytes ≡ decimal side ++ behind left

next_of : (read : List ℕ) (separator : ℕ) (more name left : List ℕ) → name ≡ read ++ left → IsName left → separator ∷ more ≡ behind left → IsNext read more name separator
next_of read separator more name [] split is_name text = absurd (cc (text))
next_of read separator more name (side ∷ left) split is_name text =
    record { side = side; left = left; split = split; small = below side left is_name; is_name = others side left is_name; is_dot = cc; text = cc }

pub next : (read rest : List ℕ) (separator : ℕ) (more name : List ℕ) → IsLeft read rest name → rest ≡ separator ∷ more → IsNext read more name separator
next read rest separator more name l is = next_of read separator more name l.left l.split l.is_name (sym is ∙ l.text)

pub read_on : (bytes read rest more : List ℕ) (side : ℕ) (tail read' : List ℕ) → IsReadTo bytes read rest → rest ≡ dot ∷ more → side < 64 → more ≡ decimal side ++ tail → TakesSide more side tail → read' ≡ read ++ side ∷ [] → IsReadTo bytes read' tail
read_on bytes read rest more side tail read' so_far is small split takes now = subst (λ (r : List ℕ). IsReadTo bytes r tail) (sym now) (record {
  is_name = All-push (λ s. s < 64) read side so_far.is_name small;
  spells = λ left e.
      ap name_text (append_assoc read (side ∷ []) left)
      ∙ so_far.spells (side ∷ left) (is ∙ ap (λ (l : List ℕ). dot ∷ l) (split ∙ ap (λ (l : List ℕ). decimal side ++ l) e));
  goes_on = λ name spelt.
      let n = next read rest dot more name (so_far.goes_on name spelt) is in
      let same = takes n.side (behind n.left) n.small n.text (NoDigit-behind n.left) in
      record {
        left = n.left;
        split = n.split ∙ ap (λ (s : ℕ). read ++ s ∷ n.left) (sym same.0) ∙ sym (append_assoc read (side ∷ []) n.left);
        is_name = n.is_name;
        text = same.1;
      };
})

end_of : (read name left : List ℕ) → name ≡ read ++ left → [] ≡ behind left → read ≡ name
end_of read name [] split text = sym (append-nil read) ∙ sym split
end_of read name (side ∷ left) split text = absurd (cc (text))

no_bytes : (rest : List ℕ) → length rest ≡ 0 → rest ≡ []
no_bytes [] none = refl
no_bytes (byte ∷ rest) none = absurd (omega (arith, none))

-- at the end of the bytes the sides read are the name
pub read_whole : (bytes read rest : List ℕ) → IsReadTo bytes read rest → length rest ≡ 0 → IsSpelling bytes read
read_whole bytes read rest so_far none = record {
  is_name = so_far.is_name;
  text = ap name_text (sym (append-nil read)) ∙ so_far.spells [] (no_bytes rest none);
}

pub read_alone : (bytes read rest name : List ℕ) → IsReadTo bytes read rest → length rest ≡ 0 → IsSpelling bytes name → read ≡ name
read_alone bytes read rest name so_far none spelt =
    let l = so_far.goes_on name spelt in
    end_of read name l.left l.split (sym (no_bytes rest none) ∙ l.text)

-- `-` spells the empty name alone
pub root_alone : (bytes name : List ℕ) → bytes ≡ codes "-" → IsSpelling bytes name → [] ≡ name
root_alone bytes name is spelt =
    spelling_unique bytes [] name (record { is_name = All-nil (λ s. s < 64); text = sym is }) spelt
