-- What has been read of the parts of an object, once some of its members have been taken.
use Rattle.std.specs.Prelude.{◌≡◌, ◌≢◌, ◌<◌, ◌^◌, ⊤, Bool, ℕ, ℤ, List, Option, Some, None, Result, Ok, Err, codes}
use Rattle.serde_json.specs.Data.{Data, array, Items}
use Rattle.serde_json.specs.Find.{get}
use Rattle.tree_model.specs.declared.Rule.{Rule}
use Rattle.tree_model.specs.declared.Claim.{Claim}
use Rattle.tree_model.specs.Automata.{TreeState, CornerType}
use Rattle.rules_file.specs.Spelling.{SpellsByte, SpellsWord, SpellsOffset, SpellsRule, SpellsPair, SpellsArray, SpellsMember, SpellsCorner, SpellsState, IsFirstMisfit}
use Rattle.serde_json.specs.Read.{read}
use Rattle.rules_file.specs.declared.fault.Part.{Part}
use Rattle.rules_file.specs.declared.fault.RulesFault.{RulesFault}
use Rattle.rules_file.specs.declared.fault.RulesFault.TheVariants.{Syntax, Shape, Memory}
use Rattle.rules_file.specs.declared.take.Unread.{Unread}
use Rattle.rules_file.specs.declared.take.Unread.TheVariants as unread
use Rattle.rules_file.specs.Faults.{HasNoArray, IsFirstFault}
use Rattle.rules_file.specs.Taking.{text_value}

-- what a value spells, as `f` sees it, or that it spells nothing
abbrev pub Spelt : {A V : Type 0} → (V → A) → (Data → A → Type 0) → Data → Option V → Type 0
Spelt {A} f Spells d None = (x : A) → ¬ Spells d x
Spelt f Spells d (Some v) = Spells d (f v)

-- the same of a member
abbrev pub HasPart : {A V : Type 0} → (V → A) → (Data → A → Type 0) → List ℕ → Data → Option V → Type 0
HasPart f Spells name d o = Spelt f (SpellsMember Spells name) d o

-- the entries of a member, or its first entry that spells nothing; None where it is no array
abbrev pub HasTable : {A V : Type 0} → (V → List A) → (Data → A → Type 0) → List ℕ → Data → Option (Result V ℕ) → Type 0
HasTable f Spells name d None = HasNoArray name d
HasTable f Spells name d (Some (Ok v)) = SpellsMember (SpellsArray Spells) name d (f v)
HasTable f Spells name d (Some (Err i)) = (ds : Items) × (get name d ≡ Some (array ds)) × IsFirstMisfit Spells ds i

pub record HasCornerParts {V : Type 0} (f : V → List ℤ) (d : Data) (hs : Option V) (pair : Option Claim) (word : Option ℕ) : Type 0 where
  pub h : HasPart f (SpellsArray SpellsOffset) (codes "h") d hs
  pub outer : HasPart (λ c. c) SpellsPair (codes "outer") d pair
  pub rank : HasPart (λ n. n) SpellsWord (codes "rank") d word

pub record HasStateParts {V W : Type 0} (f : V → List Rule) (g : W → List Claim) (d : Data) (k o : Option ℕ) (rs : Option V) (cs : Option W) : Type 0 where
  pub kind : HasPart (λ n. n) SpellsByte (codes "kind") d k
  pub off : HasPart (λ n. n) SpellsByte (codes "off") d o
  pub rules : HasPart f (SpellsArray SpellsRule) (codes "rules") d rs
  pub claims : HasPart g (SpellsArray SpellsPair) (codes "claims") d cs

pub record HasTables {U V W : Type 0} (e : U → List ℕ) (f : V → List CornerType) (g : W → List TreeState) (ranked : Bool) (d : Data)
    (number size : Option ℕ) (rs : Option (Result U ℕ)) (cs : Option (Result V ℕ)) (ss : Option (Result W ℕ)) : Type 0 where
  pub version : HasPart (λ n. n) SpellsWord (codes "version") d number
  pub scale : HasPart (λ n. n) SpellsWord (codes "scale") d size
  pub roots : HasTable e SpellsWord (codes "roots") d rs
  pub corners : HasTable f (SpellsCorner ranked) (codes "corners") d cs
  pub states : HasTable g SpellsState (codes "states") d ss

-- the entries of a value, or its first entry that spells nothing; None where it is no array
abbrev pub HasEntries : {A V : Type 0} → (V → List A) → (Data → A → Type 0) → Data → Option (Result V ℕ) → Type 0
HasEntries f Spells d None = (ds : Items) → d ≢ array ds
HasEntries f Spells d (Some (Ok v)) = SpellsArray Spells d (f v)
HasEntries f Spells d (Some (Err i)) = (ds : Items) × (d ≡ array ds) × IsFirstMisfit Spells ds i

-- what a table comes to
abbrev pub table_result : {V : Type 0} → Option (Result V ℕ) → Part → Part → Result V RulesFault
table_result None whole_part entry_part = Err (Shape whole_part 0)
table_result (Some (Ok v)) whole_part entry_part = Ok v
table_result (Some (Err i)) whole_part entry_part = Err (Shape entry_part i)

-- the place of a misfit is a u32
abbrev pub IsSmall : {V : Type 0} → Option (Result V ℕ) → Type 0
IsSmall t = (i : ℕ) → t ≡ Some (Err i) → i < 2 ^ 32

-- why no automaton is read from a text
abbrev pub RefusesText : List ℕ → RulesFault → Type 0
RefusesText text Syntax = read text ≡ None
RefusesText text (Shape part i) = (read text ≡ Some (text_value text)) × IsFirstFault (text_value text) part i
RefusesText text Memory = ⊤

abbrev pub fault_of : Unread → RulesFault
fault_of unread.Syntax = Syntax
fault_of unread.Memory = Memory
