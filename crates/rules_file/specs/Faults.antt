-- Where a JSON value first fails to spell an automaton.
use Rattle.std.specs.Prelude.{◌≡◌, ◌≢◌, Bool, true, ℕ, ◌<◌, List, codes, Some, ◌⊎◌, ◌^◌, ⊤}
use Rattle.serde_json.specs.Data.{Data, array, object, Items, Members}
use Rattle.serde_json.specs.Find.{get, get_item}
use Rattle.serde_json.specs.Events.{items_len}
use Rattle.rules_file.specs.declared.fault.Part.{Part}
use Rattle.rules_file.specs.declared.fault.Part.TheVariants.{Whole, Version, Scale, Roots, Corners, Corner, States, State}
use Rattle.rules_file.specs.declared.fault.RulesFault.{RulesFault}
use Rattle.rules_file.specs.declared.fault.RulesFault.TheVariants.{Syntax, Shape, Memory}
use Rattle.rules_file.specs.Spelling.{IsFirstMisfit, HasWord, HasVersion, SpellsWord, SpellsCorner, SpellsState}

abbrev pub IsNoObject : Data → Type 0
IsNoObject d = (ms : Members) → d ≢ object ms

-- the member of this name is missing or not an array
abbrev pub HasNoArray : List ℕ → Data → Type 0
HasNoArray name d = (ds : Items) → get name d ≢ Some (array ds)

-- the member of this name is an array whose entry i spells nothing
pub record HasBadEntry {A : Type 0} (Spells : Data → A → Type 0)
    (name : List ℕ) (d : Data) (i : ℕ) : Type 0 where
  pub entries : Items
  pub found : get name d ≡ Some (array entries)
  pub entry : Data
  pub at : get_item i entries ≡ Some entry
  pub bad : (x : A) → ¬ Spells entry x

-- the part fails, at this index
abbrev pub FailsAt : Part → ℕ → Data → Type 0
FailsAt Whole i d = (i ≡ 0) × IsNoObject d
FailsAt Version i d = (i ≡ 0) × ((ranked : Bool) → ¬ HasVersion ranked d)
FailsAt Scale i d = (i ≡ 0) × (HasVersion true d × (¬ HasWord (codes "scale") d))
FailsAt Roots i d =
    ((i ≡ 0) × HasNoArray (codes "roots") d) ⊎ HasBadEntry SpellsWord (codes "roots") d i
FailsAt Corners i d = (i ≡ 0) × HasNoArray (codes "corners") d
FailsAt Corner i d =
    (ranked : Bool) × HasVersion ranked d × HasBadEntry (SpellsCorner ranked) (codes "corners") d i
FailsAt States i d = (i ≡ 0) × HasNoArray (codes "states") d
FailsAt State i d = HasBadEntry SpellsState (codes "states") d i

-- the order in which the parts are tried
abbrev pub turn : Part → ℕ
turn Whole = 0
turn Version = 1
turn Scale = 2
turn Roots = 3
turn Corners = 4
turn Corner = 5
turn States = 6
turn State = 7

-- the first failure: part by part, and in one part entry by entry
pub record IsFirstFault (d : Data) (part : Part) (i : ℕ) : Type 0 where
  pub fails : FailsAt part i d
  pub earlier_parts : (other : Part) (j : ℕ) → turn other < turn part → ¬ FailsAt other j d
  pub earlier_entries : (j : ℕ) → j < i → ¬ FailsAt part j d

-- the refusal of a JSON value: its first failure. Want of memory may come at any point.
abbrev pub Refuses : Data → RulesFault → Type 0
Refuses d Syntax = ⊥
Refuses d (Shape part index) = IsFirstFault d part index
Refuses d Memory = ⊤

-- the arrays among the members have fewer entries than a u32 counts
abbrev pub HasSmallArrays : Data → Type 0
HasSmallArrays d =
    (name : List ℕ) (ds : Items) → get name d ≡ Some (array ds) → items_len ds < 2 ^ 32

-- what a table is refused for: want of memory, no array, or its first entry that spells nothing
pub data RefusesTable {A : Type 0} (Spells : Data → A → Type 0)
    (name : List ℕ) (d : Data) (whole_part entry_part : Part) : RulesFault → Type 0 where
  no_memory : RefusesTable Spells name d whole_part entry_part Memory
  no_array : HasNoArray name d
      → RefusesTable Spells name d whole_part entry_part (Shape whole_part 0)
  bad_entry : {ds : Items} {i : ℕ} → get name d ≡ Some (array ds) → IsFirstMisfit Spells ds i
      → RefusesTable Spells name d whole_part entry_part (Shape entry_part i)
