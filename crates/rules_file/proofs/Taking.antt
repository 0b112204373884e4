-- The values, items and members at the front of a reader's tokens, one after another.
use Rattle.std.proofs.Common.{◌≡◌, ℕ, zero, suc, ◌-◌, ◌<◌, ◌≤◌, List, [], ◌∷◌, length, Option, Some, None, option_map, option_and_then, Bool, refl, sym, ap, ◌∙◌, subst, arith}
use Rattle.std.specs.Prelude.{⊤}
use Rattle.json.specs.Token.{Token}
use Rattle.json.specs.Lex.{tokens}
use Rattle.json.specs.Json as json
use Rattle.json.specs.Json.{Parse, parse_map, after_end_array, read_key, items_step, members_step, items, members, value}
use Rattle.json.proofs.Grammar.{left, items_end, members_end, members_no_key, value_is, value-begin_array, value-begin_object, after_end_array-shorter, read_key-shorter, skip_value-shorter}
use Rattle.serde_json.specs.Data.{Num, Data, null, boolean, number, string, array, object, Items, no_items, item, Members, no_members, put}
use Rattle.serde_json.specs.Read.{number_of, of_json, of_items, of_members, converted, read}
use Rattle.rules_file.proofs.Conversion.{turned, to_array, to_object, one_item, no_item, one_member, no_member, whole_of, whole_and_more, whole_broken}
use Rattle.rules_file.specs.Taking.{value_read, items_read, members_read, first_or, data_or_null, value_at, items_at, members_at, text_value, HasValue, HasItems, HasMembers, OpensArray, OpensObject}

-- ---- turns enough are enough

module _ (p : Parse json.Json) (shorter : (ts r : List Token) (j : json.Json) → p ts ≡ Some (j, r) → length r < length ts) where
  next_items : (n m : ℕ) (ts : List Token) (o : Option (json.Json × List Token)) → p ts ≡ o → ((r : List Token) → length r < length ts → items p n r ≡ items p m r)
      → option_and_then (λ q. parse_map (json.item q.0) (items p n q.1)) o ≡ option_and_then (λ q. parse_map (json.item q.0) (items p m q.1)) o
  next_items n m ts None e again = refl
  next_items n m ts (Some q) e again = ap (parse_map (json.item q.0)) (again q.1 (shorter ts q.1 q.0 e))

  items_turn : (n m : ℕ) (ts : List Token) (o : Option (List Token)) → ((r : List Token) → length r < length ts → items p n r ≡ items p m r)
      → items_step p (items p n) ts o ≡ items_step p (items p m) ts o
  items_turn n m ts (Some r) again = refl
  items_turn n m ts None again = next_items n m ts (p ts) refl again

  no_value : (m : ℕ) (o : Option (json.Json × List Token)) → p [] ≡ o → option_and_then (λ q. parse_map (json.item q.0) (items p m q.1)) o ≡ None
  no_value m None e = refl
  no_value m (Some q) e = absurd (omega (arith, shorter [] q.1 q.0 e))

  no_items_left : (m : ℕ) (ts : List Token) → length ts ≤ 0 → items p m ts ≡ None
  unfolding items
  no_items_left zero ts l = refl
  no_items_left (suc m) [] l = no_value m (p []) refl
  no_items_left (suc m) (t ∷ ts) l = absurd (omega arith)

  items_enough : (n m : ℕ) (ts : List Token) → length ts ≤ n → length ts ≤ m → items p n ts ≡ items p m ts
  unfolding items
  items_enough zero m ts l k = sym (no_items_left m ts l)
  items_enough (suc n) zero ts l k = no_items_left (suc n) ts k
  items_enough (suc n) (suc m) ts l k = items_turn n m ts (after_end_array ts) (λ r h. items_enough n m r (omega arith) (omega arith))

  next_members : (n m : ℕ) (ts s : List Token) (k : List ℕ) (o : Option (json.Json × List Token)) → p s ≡ o → length s < length ts → ((r : List Token) → length r < length ts → members p n r ≡ members p m r)
      → option_and_then (λ q. parse_map (json.member k q.0) (members p n q.1)) o ≡ option_and_then (λ q. parse_map (json.member k q.0) (members p m q.1)) o
  next_members n m ts s k None e l again = refl
  next_members n m ts s k (Some q) e l again = ap (parse_map (json.member k q.0)) (again q.1 (omega (arith, shorter s q.1 q.0 e)))

  members_turn : (n m : ℕ) (ts : List Token) (o : Option (Option (List ℕ) × List Token)) → read_key ts ≡ o → ((r : List Token) → length r < length ts → members p n r ≡ members p m r)
      → option_and_then (λ q. members_step p (members p n) q.0 q.1) o ≡ option_and_then (λ q. members_step p (members p m) q.0 q.1) o
  members_turn n m ts None e again = refl
  members_turn n m ts (Some (None, s)) e again = refl
  members_turn n m ts (Some (Some k, s)) e again = next_members n m ts s k (p s) refl (read_key-shorter ts (Some k) s e) again

  no_members_left : (m : ℕ) (ts : List Token) → length ts ≤ 0 → members p m ts ≡ None
  unfolding members
  no_members_left zero ts l = refl
  no_members_left (suc m) [] l = refl
  no_members_left (suc m) (t ∷ ts) l = absurd (omega arith)

  members_enough : (n m : ℕ) (ts : List Token) → length ts ≤ n → length ts ≤ m → members p n ts ≡ members p m ts
  unfolding members
  members_enough zero m ts l k = sym (no_members_left m ts l)
  members_enough (suc n) zero ts l k = no_members_left (suc n) ts k
  members_enough (suc n) (suc m) ts l k = members_turn n m ts (read_key ts) refl (λ r h. members_enough n m r (omega arith) (omega arith))

value_shorter : (depth : ℕ) (ts r : List Token) (j : json.Json) → value depth ts ≡ Some (j, r) → length r < length ts
value_shorter depth ts r j e = skip_value-shorter depth ts r (ap left e)

-- a value takes a token at least
pub shorter : (depth : ℕ) (ts r : List Token) (d : Data) → value_read depth ts ≡ Some (d, r) → length r < length ts
unfolding value_read
shorter depth ts r d e = let t = turned of_json (value depth ts) d r e in value_shorter depth ts r t.source t.parsed

pub has_shorter : (depth : ℕ) (ts r : List Token) → HasValue depth ts r → length r < length ts
has_shorter depth ts r h = shorter depth ts r (value_at depth ts) h

-- ---- what was read, where it was

pub value_is_at : (depth : ℕ) (ts r : List Token) (d : Data) → value_read depth ts ≡ Some (d, r) → HasValue depth ts r × (value_at depth ts ≡ d)
unfolding value_at
value_is_at depth ts r d e = let same = ap (first_or null) e in (e ∙ ap (λ u. Some (u, r)) (sym same), same)

pub items_are_at : (depth : ℕ) (ts r : List Token) (ds : Items) → items_read depth ts ≡ Some (ds, r) → HasItems depth ts r × (items_at depth ts ≡ ds)
unfolding items_at
items_are_at depth ts r ds e = let same = ap (first_or no_items) e in (e ∙ ap (λ u. Some (u, r)) (sym same), same)

pub members_are_at : (depth : ℕ) (ts r : List Token) (ms : Members) → members_read depth no_members ts ≡ Some (ms, r) → HasMembers depth ts r × (members_at depth ts ≡ ms)
unfolding members_at
members_are_at depth ts r ms e = let same = ap (first_or no_members) e in (e ∙ ap (λ u. Some (u, r)) (sym same), same)

-- ---- turn by turn

pub items_done : (depth : ℕ) (ts r : List Token) → after_end_array ts ≡ Some r → items_read depth ts ≡ Some (no_items, r)
unfolding items_read
items_done depth ts r e = ap (converted of_items) (items_end (value depth) (length ts) ts r (omega arith) e)

pub items_next : (depth : ℕ) (ts r : List Token) (d : Data) → after_end_array ts ≡ None → value_read depth ts ≡ Some (d, r) → items_read depth ts ≡ parse_map (item d) (items_read depth r)
unfolding items_read value_read
items_next depth ts r d going e =
    let less = shorter depth ts r d e in
    one_item (value depth) (length ts) ts r d (omega arith) going e
    ∙ ap (λ o. parse_map (item d) (converted of_items o)) (items_enough (value depth) (value_shorter depth) (length ts - 1) (length r) r (omega arith) (omega arith))

pub items_stop : (depth : ℕ) (ts : List Token) → after_end_array ts ≡ None → value_read depth ts ≡ None → items_read depth ts ≡ None
unfolding items_read value_read items
items_stop depth [] going e = refl
items_stop depth (t ∷ ts) going e = no_item (value depth) (length (t ∷ ts)) (t ∷ ts) (omega arith) going e

pub members_done : (depth : ℕ) (found : Members) (ts r : List Token) → read_key ts ≡ Some (None, r) → members_read depth found ts ≡ Some (found, r)
unfolding members_read
members_done depth found ts r e = ap (converted (λ ms. of_members ms found)) (members_end (value depth) (length ts) ts r (omega arith) e)

pub members_next : (depth : ℕ) (found : Members) (ts s r : List Token) (k : List ℕ) (d : Data) → read_key ts ≡ Some (Some k, s) → value_read depth s ≡ Some (d, r)
    → members_read depth found ts ≡ members_read depth (put k d found) r
unfolding members_read value_read
members_next depth found ts s r k d named e =
    let less = shorter depth s r d e in
    let first = read_key-shorter ts (Some k) s named in
    one_member (value depth) found (length ts) k ts s r d (omega arith) named e
    ∙ ap (λ o. converted (λ ms. of_members ms (put k d found)) o) (members_enough (value depth) (value_shorter depth) (length ts - 1) (length r) r (omega arith) (omega arith))

pub members_stop : (depth : ℕ) (found : Members) (ts s : List Token) (k : List ℕ) → read_key ts ≡ Some (Some k, s) → value_read depth s ≡ None → members_read depth found ts ≡ None
unfolding members_read value_read
members_stop depth found ts s k named e =
    let first = read_key-shorter ts (Some k) s named in
    no_member (value depth) found (length ts) k ts s (omega arith) named e

pub members_unnamed : (depth : ℕ) (found : Members) (ts : List Token) → read_key ts ≡ None → members_read depth found ts ≡ None
unfolding members_read
members_unnamed depth found ts e = ap (converted (λ ms. of_members ms found)) (members_no_key (value depth) (length ts) ts e)

-- ---- by the first token

at_token : (depth : ℕ) (ts us : List Token) → ts ≡ us → value_read depth ts ≡ converted of_json (value depth us)
unfolding value_read
at_token depth ts us e = ap (λ vs. converted of_json (value depth vs)) e

pub at_none : (depth : ℕ) (ts : List Token) → ts ≡ [] → value_read depth ts ≡ None
at_none depth ts e = at_token depth ts [] e ∙ ap (converted of_json) (value_is depth [])

pub at_string : (depth : ℕ) (ts r : List Token) (s : List ℕ) → ts ≡ Token.string s ∷ r → value_read depth ts ≡ Some (string s, r)
at_string depth ts r s e = at_token depth ts _ e ∙ ap (converted of_json) (value_is depth (Token.string s ∷ r))

pub at_boolean : (depth : ℕ) (ts r : List Token) (b : Bool) → ts ≡ Token.boolean b ∷ r → value_read depth ts ≡ Some (boolean b, r)
at_boolean depth ts r b e = at_token depth ts _ e ∙ ap (converted of_json) (value_is depth (Token.boolean b ∷ r))

pub at_null : (depth : ℕ) (ts r : List Token) → ts ≡ Token.null ∷ r → value_read depth ts ≡ Some (null, r)
at_null depth ts r e = at_token depth ts _ e ∙ ap (converted of_json) (value_is depth (Token.null ∷ r))

pub at_number : (depth : ℕ) (ts r : List Token) (s : List ℕ) (n : Num) → ts ≡ Token.number s ∷ r → Some n ≡ number_of s → value_read depth ts ≡ Some (number n, r)
at_number depth ts r s n e is = at_token depth ts _ e ∙ ap (converted of_json) (value_is depth (Token.number s ∷ r)) ∙ ap (λ o. option_map (λ d. (d, r)) (option_map number o)) (sym is)

pub at_bad_number : (depth : ℕ) (ts r : List Token) (s : List ℕ) → ts ≡ Token.number s ∷ r → None ≡ number_of s → value_read depth ts ≡ None
at_bad_number depth ts r s e is = at_token depth ts _ e ∙ ap (converted of_json) (value_is depth (Token.number s ∷ r)) ∙ ap (λ o. option_map (λ d. (d, r)) (option_map number o)) (sym is)

opened_array : (depth : ℕ) (ts r : List Token) → ts ≡ Token.begin_array ∷ r → 0 < depth → value_read depth ts ≡ parse_map array (items_read (depth - 1) r)
unfolding items_read
opened_array depth ts r e some = at_token depth ts _ e ∙ ap (converted of_json) (value-begin_array depth r some) ∙ to_array (items (value (depth - 1)) (length r) r)

pub at_array : (depth : ℕ) (ts r : List Token) → ts ≡ Token.begin_array ∷ r → 0 < depth → OpensArray depth ts r
at_array depth ts r e some = record { deep = some; is = opened_array depth ts r e some }

opened_object : (depth : ℕ) (ts r : List Token) → ts ≡ Token.begin_object ∷ r → 0 < depth → value_read depth ts ≡ parse_map object (members_read (depth - 1) no_members r)
unfolding members_read
opened_object depth ts r e some = at_token depth ts _ e ∙ ap (converted of_json) (value-begin_object depth r some) ∙ to_object (members (value (depth - 1)) (length r) r)

pub at_object : (depth : ℕ) (ts r : List Token) → ts ≡ Token.begin_object ∷ r → 0 < depth → OpensObject depth ts r
at_object depth ts r e some = record { deep = some; is = opened_object depth ts r e some }

pub at_other : (depth : ℕ) (ts : List Token) → value depth ts ≡ None → value_read depth ts ≡ None
unfolding value_read
at_other depth ts e = ap (converted of_json) e

-- no depth is left
pub at_deep_array : (depth : ℕ) (ts r : List Token) → depth ≡ 0 → ts ≡ Token.begin_array ∷ r → value_read depth ts ≡ None
unfolding value
at_deep_array depth ts r none e = ap (λ n. value_read n ts) none ∙ at_token 0 ts _ e

pub at_deep_object : (depth : ℕ) (ts r : List Token) → depth ≡ 0 → ts ≡ Token.begin_object ∷ r → value_read depth ts ≡ None
unfolding value
at_deep_object depth ts r none e = ap (λ n. value_read n ts) none ∙ at_token 0 ts _ e

-- ---- a whole array, a whole object

pub array_whole : (depth : ℕ) (ts mid r : List Token) → OpensArray depth ts mid → HasItems (depth - 1) mid r → HasValue depth ts r × (value_at depth ts ≡ array (items_at (depth - 1) mid))
array_whole depth ts mid r opens has = value_is_at depth ts r _ (opens.is ∙ ap (parse_map array) has)

pub object_whole : (depth : ℕ) (ts mid r : List Token) → OpensObject depth ts mid → HasMembers (depth - 1) mid r → HasValue depth ts r × (value_at depth ts ≡ object (members_at (depth - 1) mid))
object_whole depth ts mid r opens has = value_is_at depth ts r _ (opens.is ∙ ap (parse_map object) has)

pub array_broken : (depth : ℕ) (ts mid : List Token) → OpensArray depth ts mid → items_read (depth - 1) mid ≡ None → value_read depth ts ≡ None
array_broken depth ts mid opens none = opens.is ∙ ap (parse_map array) none

pub object_broken : (depth : ℕ) (ts mid : List Token) → OpensObject depth ts mid → members_read (depth - 1) no_members mid ≡ None → value_read depth ts ≡ None
object_broken depth ts mid opens none = opens.is ∙ ap (parse_map object) none

-- ---- the whole text

pub text_whole : (text : List ℕ) → HasValue 127 (tokens text) [] → (read text ≡ Some (text_value text)) × (text_value text ≡ value_at 127 (tokens text))
unfolding text_value value_read
text_whole text has =
    let is = whole_of (value 127 (tokens text)) _ has in
    let same = ap data_or_null is in
    (is ∙ ap Some (sym same), same)

pub text_broken : (text : List ℕ) → value_read 127 (tokens text) ≡ None → read text ≡ None
unfolding value_read
text_broken text none = whole_broken (value 127 (tokens text)) none

pub text_and_more : (text : List ℕ) (t : Token) (r : List Token) → HasValue 127 (tokens text) (t ∷ r) → read text ≡ None
unfolding value_read
text_and_more text t r has = whole_and_more (value 127 (tokens text)) _ t r has
