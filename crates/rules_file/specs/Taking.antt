-- What stands at the front of a reader's tokens, as `serde_json` reads it: a value, or what is left
-- of an array or of an object.
use Rattle.std.specs.Prelude.{◌≡◌, ℕ, ◌-◌, ◌<◌, List, length, Option, Some, None}
use Rattle.json.specs.Token.{Token}
use Rattle.json.specs.Json.{value, items, members, parse_map}
use Rattle.serde_json.specs.Data.{Data, null, number, string, array, object, Items, no_items, Members, no_members}
use Rattle.serde_json.specs.Find.{as_number, as_str, as_array, as_object}
use Rattle.serde_json.specs.Read.{of_json, of_items, of_members, converted, read}
use Rattle.serde_json.specs.View.{number_view}
use Rattle.rules_file.specs.declared.take.Begun.{Begun}
use Rattle.rules_file.specs.declared.take.Begun.TheVariants.{Number, Text, Plain, Array, Object}
use Rattle.rules_file.specs.declared.take.Scalar.{Scalar}
use Rattle.rules_file.specs.declared.take.Scalar.TheVariants as scalar

-- a value, with the tokens behind it. Arrays and objects nest no deeper than the number.
unfoldable pub value_read : ℕ → List Token → Option (Data × List Token)
value_read depth ts = converted of_json (value depth ts)

-- the items up to the bracket that closes their array
unfoldable pub items_read : ℕ → List Token → Option (Items × List Token)
items_read depth ts = converted of_items (items (value depth) (length ts) ts)

-- the members up to the brace that closes their object, put among those found before
unfoldable pub members_read : ℕ → Members → List Token → Option (Members × List Token)
members_read depth found ts = converted (λ ms. of_members ms found) (members (value depth) (length ts) ts)

abbrev pub first_or : {A : Type 0} → A → Option (A × List Token) → A
first_or a None = a
first_or a (Some p) = p.0

abbrev pub data_or_null : Option Data → Data
data_or_null None = null
data_or_null (Some d) = d

-- what was read, where it was
unfoldable pub value_at : ℕ → List Token → Data
value_at depth ts = first_or null (value_read depth ts)

unfoldable pub items_at : ℕ → List Token → Items
items_at depth ts = first_or no_items (items_read depth ts)

unfoldable pub members_at : ℕ → List Token → Members
members_at depth ts = first_or no_members (members_read depth no_members ts)

unfoldable pub text_value : List ℕ → Data
text_value text = data_or_null (read text)

-- from `old` to `new` stands one value, the rest of an array, the rest of an object
abbrev pub HasValue : ℕ → List Token → List Token → Type 0
HasValue depth old new = value_read depth old ≡ Some (value_at depth old, new)

abbrev pub HasItems : ℕ → List Token → List Token → Type 0
HasItems depth old new = items_read depth old ≡ Some (items_at depth old, new)

abbrev pub HasMembers : ℕ → List Token → List Token → Type 0
HasMembers depth old new = members_read depth no_members old ≡ Some (members_at depth old, new)

-- a bracket was passed: the items are still to come
pub record OpensArray (depth : ℕ) (old new : List Token) : Type 0 where
  pub deep : 0 < depth
  pub is : value_read depth old ≡ parse_map array (items_read (depth - 1) new)

pub record OpensObject (depth : ℕ) (old new : List Token) : Type 0 where
  pub deep : 0 < depth
  pub is : value_read depth old ≡ parse_map object (members_read (depth - 1) no_members new)

-- null, or true or false
pub record IsPlain (d : Data) : Type 0 where
  pub number : as_number d ≡ None
  pub str : as_str d ≡ None
  pub array : as_array d ≡ None
  pub object : as_object d ≡ None

-- what a value begins with, and what follows that
abbrev pub Begins : ℕ → List Token → Begun → List Token → Type 0
Begins depth old (Number n) new = HasValue depth old new × (value_at depth old ≡ number (number_view n))
Begins depth old (Text s) new = HasValue depth old new × (value_at depth old ≡ string s.now)
Begins depth old Plain new = HasValue depth old new × IsPlain (value_at depth old)
Begins depth old Array new = OpensArray depth old new
Begins depth old Object new = OpensObject depth old new

-- the number or the string that a value is, where it is one
abbrev pub IsScalar : Scalar → Data → Type 0
IsScalar (scalar.Number n) d = d ≡ number (number_view n)
IsScalar (scalar.Text s) d = d ≡ string s.now
IsScalar scalar.Other d = (as_number d ≡ None) × (as_str d ≡ None)
