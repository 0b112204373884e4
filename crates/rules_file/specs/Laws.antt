-- What the first failure of a rules file is to the automaton that it spells.
use Rattle.std.specs.Prelude.{◌≡◌, ℕ}
use Rattle.serde_json.specs.Data.{Data}
use Rattle.tree_model.specs.Automata.{TreeAutomaton}
use Rattle.rules_file.specs.declared.fault.Part.{Part}
use Rattle.rules_file.specs.Spelling.{SpellsTables}
use Rattle.rules_file.specs.Faults.{FailsAt, IsFirstFault}

-- A value that spells an automaton fails nowhere.
abbrev pub SpeltDoesNotFail : Type 0
SpeltDoesNotFail =
    (d : Data) (a : TreeAutomaton) (part : Part) (i : ℕ) → SpellsTables d a → ¬ FailsAt part i d

-- A value has one first failure at most.
abbrev pub OneFirstFault : Type 0
OneFirstFault =
    (d : Data) (p q : Part) (i j : ℕ) → IsFirstFault d p i → IsFirstFault d q j
    → (p ≡ q) × (i ≡ j)
