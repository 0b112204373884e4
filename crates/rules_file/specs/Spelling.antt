-- Rules files: how an automaton is written as JSON, and which JSON values spell it.
use Rattle.std.specs.Prelude.{◌≡◌, Bool, true, false, IsTrue, ℕ, ◌^◌, ◌<◌, ℤ, List, [], ◌∷◌, ◌++◌, map, codes, Some, IsUtf8, FitsSigned, ⊤}
use Rattle.std.specs.Int.{w8}
use Rattle.serde_json.specs.Data.{Data, string, number, unsigned, array, object, Items, no_items, item, no_members, member}
use Rattle.serde_json.specs.Find.{get, get_item, of_integer}
use Rattle.serde_json.specs.View.{items_of}
use Rattle.serde_json.specs.Read.{read}
use Rattle.serde_json.specs.Written.{compact_text}
use Rattle.tree_model.specs.declared.Rule.{Rule}
use Rattle.tree_model.specs.declared.Rule.TheVariants.{Parent, Child, Left, Right}
use Rattle.tree_model.specs.declared.Claim.{Claim}
use Rattle.tree_model.specs.Automata.{TreeState, CornerType, TreeAutomaton}

-- ---- each value as JSON

abbrev pub whole : ℕ → Data
whole n = number (unsigned n)

abbrev pub offset_json : ℤ → Data
offset_json z = number (of_integer z)

abbrev pub rule_json : Rule → Data
rule_json Parent = string (codes "P")
rule_json (Child s) = whole s
rule_json Left = string (codes "L")
rule_json Right = string (codes "R")

-- a pair: a corner type and a place
abbrev pub pair_json : Claim → Data
pair_json c = array (item (whole c.corner) (item (whole c.place) no_items))

abbrev pub list_json : {A : Type 0} → (A → Data) → List A → Data
list_json f xs = array (items_of (map f xs))

-- the members alone, in byte order of their names
abbrev pub corner_json : CornerType → Data
corner_json g =
    object (member (codes "h") (list_json offset_json g.offsets)
    (member (codes "outer") (pair_json g.outer) no_members))

abbrev pub state_json : TreeState → Data
state_json s =
    object (member (codes "claims") (list_json pair_json s.claims)
    (member (codes "kind") (whole s.kind)
    (member (codes "off") (whole s.off)
    (member (codes "rules") (list_json rule_json s.rules) no_members))))

-- the version of a file: version 1 has a scale and a rank of each corner type, version 2 has none
abbrev pub version_of : Bool → ℕ
version_of true = 1
version_of false = 2

abbrev pub automaton_json : TreeAutomaton → Data
automaton_json a =
    object (member (codes "corners") (list_json corner_json a.corners)
    (member (codes "roots") (list_json whole a.roots)
    (member (codes "states") (list_json state_json a.states)
    (member (codes "version") (whole (version_of false)) no_members))))

-- the canonical text: compact JSON, and a line feed
abbrev pub rules_text : TreeAutomaton → List ℕ
rules_text a = compact_text (automaton_json a) ++ 10 ∷ []

-- ---- which values spell what

-- a whole number from 0 to 255
pub record SpellsByte (d : Data) (n : ℕ) : Type 0 where
  pub value : d ≡ whole n
  pub fits : n < 2 ^ 8

-- a whole number from 0 to 2^32 - 1
pub record SpellsWord (d : Data) (n : ℕ) : Type 0 where
  pub value : d ≡ whole n
  pub fits : n < 2 ^ 32

-- a whole number from -128 to 127
pub record SpellsOffset (d : Data) (z : ℤ) : Type 0 where
  pub value : d ≡ offset_json z
  pub fits : FitsSigned w8 z

abbrev pub FitsRule : Rule → Type 0
FitsRule Parent = ⊤
FitsRule (Child s) = s < 2 ^ 32
FitsRule Left = ⊤
FitsRule Right = ⊤

pub record SpellsRule (d : Data) (r : Rule) : Type 0 where
  pub value : d ≡ rule_json r
  pub fits : FitsRule r

pub record SpellsPair (d : Data) (c : Claim) : Type 0 where
  pub value : d ≡ pair_json c
  pub corner_fits : c.corner < 2 ^ 32
  pub place_fits : c.place < 2 ^ 8

-- the items spell the elements, one by one
abbrev pub SpellEach : {A : Type 0} → (Data → A → Type 0) → Items → List A → Type 0
SpellEach Spells no_items [] = ⊤
SpellEach Spells no_items (x ∷ xs) = ⊥
SpellEach Spells (item d ds) [] = ⊥
SpellEach Spells (item d ds) (x ∷ xs) = Spells d x × SpellEach Spells ds xs

abbrev pub SpellsArray : {A : Type 0} → (Data → A → Type 0) → Data → List A → Type 0
SpellsArray Spells d xs = (ds : Items) × (d ≡ array ds) × SpellEach Spells ds xs

-- the member of this name, of an object, spells x. Members of other names may stand beside it.
abbrev pub SpellsMember : {A : Type 0} → (Data → A → Type 0) → List ℕ → Data → A → Type 0
SpellsMember Spells name d x = (e : Data) × (get name d ≡ Some e) × Spells e x

-- the member of this name is a whole number from 0 to 2^32 - 1, whichever
abbrev pub HasWord : List ℕ → Data → Type 0
HasWord name d = (n : ℕ) × SpellsMember SpellsWord name d n

-- in a file with ranks the corner type has one, which is no part of it
pub record SpellsCorner (ranked : Bool) (d : Data) (g : CornerType) : Type 0 where
  pub h : SpellsMember (SpellsArray SpellsOffset) (codes "h") d g.offsets
  pub outer : SpellsMember SpellsPair (codes "outer") d g.outer
  pub rank : IsTrue ranked → HasWord (codes "rank") d

pub record SpellsState (d : Data) (s : TreeState) : Type 0 where
  pub kind : SpellsMember SpellsByte (codes "kind") d s.kind
  pub off : SpellsMember SpellsByte (codes "off") d s.off
  pub rules : SpellsMember (SpellsArray SpellsRule) (codes "rules") d s.rules
  pub claims : SpellsMember (SpellsArray SpellsPair) (codes "claims") d s.claims

abbrev pub HasVersion : Bool → Data → Type 0
HasVersion ranked d = get (codes "version") d ≡ Some (whole (version_of ranked))

-- version 1 has a scale, which is no part of the automaton, and ranks
pub record SpellsTables (d : Data) (a : TreeAutomaton) : Type 0 where
  pub ranked : Bool
  pub version : HasVersion ranked d
  pub scale : IsTrue ranked → HasWord (codes "scale") d
  pub roots : SpellsMember (SpellsArray SpellsWord) (codes "roots") d a.roots
  pub corners : SpellsMember (SpellsArray (SpellsCorner ranked)) (codes "corners") d a.corners
  pub states : SpellsMember (SpellsArray SpellsState) (codes "states") d a.states

-- the bytes are JSON text of this value
pub record IsTextOf (bytes : List ℕ) (d : Data) : Type 0 where
  pub utf8 : IsUtf8 bytes
  pub value : read bytes ≡ Some d

-- the bytes are a rules file of this automaton
abbrev pub IsRulesFile : List ℕ → TreeAutomaton → Type 0
IsRulesFile bytes a = (d : Data) × IsTextOf bytes d × SpellsTables d a

-- item i is the first that spells nothing
pub record IsFirstMisfit {A : Type 0} (Spells : Data → A → Type 0)
    (ds : Items) (i : ℕ) : Type 0 where
  pub entry : Data
  pub at : get_item i ds ≡ Some entry
  pub bad : (x : A) → ¬ Spells entry x
  pub before : (j : ℕ) → j < i → (e : Data) → get_item j ds ≡ Some e → (x : A) × Spells e x
