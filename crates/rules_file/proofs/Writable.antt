-- The JSON of an automaton whose numbers fit the tables can be written and read back.
use Rattle.std.proofs.Common.{◌≡◌, ℕ, suc, ◌^◌, ◌<◌, ◌≤◌, ℤ, pos, negsuc, Bool, true, false, List, [], ◌∷◌, ◌++◌, map, codes, Some, option_map, decimal, IsUtf8, refl, ap, arith}
use Rattle.std.specs.Prelude.{All, FitsSigned}
use Rattle.std.specs.Int.{w8}
use Rattle.std.proofs.lemmas.Str.{IsUtf8-append, IsUtf8-from_ascii}
use Rattle.std.proofs.lemmas.Fmt.{IsAscii-decimal, IsAscii-signed}
use Rattle.std.proofs.lemmas.List.Elements.{All-head, All-tail}
use Rattle.std.specs.Fmt.{signed_decimal}
use Rattle.json.specs.Tree.{ItemsHaveNumbers, MembersHaveNumbers}
use Rattle.json.specs.Tree as tree
use Rattle.json.specs.Print.{quoted}
use Rattle.json.proofs.Printed.Decimals.{IsNumber-decimal, IsNumber-signed_decimal}
use Rattle.json.proofs.Printed.Utf8.{are_ascii, IsUtf8-are_ascii, IsUtf8-quoted}
use Rattle.serde_json.specs.Data.{Data, number, string, array, object, Items, no_items, item, Members, no_members, member}
use Rattle.serde_json.specs.View.{items_of}
use Rattle.serde_json.specs.Read.{of_json, of_items, of_members, max_depth}
use Rattle.serde_json.specs.Written.{outline, items_outline, members_outline, compact_text, items_text, members_text, comma_if}
use Rattle.serde_json.proofs.Numbers.{number_of-decimal, number_of-negative}
use Rattle.tree_model.specs.declared.Rule.{Rule}
use Rattle.tree_model.specs.declared.Rule.TheVariants.{Parent, Child, Left, Right}
use Rattle.tree_model.specs.declared.Claim.{Claim}
use Rattle.tree_model.specs.Automata.{TreeState, CornerType, TreeAutomaton}
use Rattle.rules_file.specs.Spelling.{FitsRule, whole, offset_json, rule_json, pair_json, list_json, corner_json, state_json, automaton_json}
use Rattle.rules_file.specs.Ranges.{FitsPair, FitsCorner, FitsState, FitsTables}
use Rattle.rules_file.proofs.Canonical.{IsWritable}

comma_utf8 : (b : Bool) (s : List ℕ) → IsUtf8 s → IsUtf8 (comma_if b ++ s)
comma_utf8 true s h = IsUtf8-append (44 ∷ []) s (IsUtf8-are_ascii (44 ∷ []) refl) h
comma_utf8 false s h = h

byte_utf8 : (x : ℕ) (s : List ℕ) → IsUtf8 (x ∷ []) → IsUtf8 s → IsUtf8 (x ∷ s)
byte_utf8 x s h k = IsUtf8-append (x ∷ []) s h k

whole_writable : (n : ℕ) → n < 2 ^ 64 → IsWritable 0 (whole n)
whole_writable n h = record {
  numbers = IsNumber-decimal n h;
  shallow = omega arith;
  back = ap (option_map number) (number_of-decimal n h);
  utf8 = IsUtf8-from_ascii (decimal n) (IsAscii-decimal n h);
}

word_writable : (n : ℕ) → n < 2 ^ 32 → IsWritable 0 (whole n)
word_writable n h = whole_writable n (omega arith)

byte_writable : (n : ℕ) → n < 2 ^ 8 → IsWritable 0 (whole n)
byte_writable n h = whole_writable n (omega arith)

offset_writable : (z : ℤ) → FitsSigned w8 z → IsWritable 0 (offset_json z)
offset_writable (pos n) h = whole_writable n (omega (arith, h.sfits))
offset_writable (negsuc n) h =
    let small : n < 2 ^ 62 = omega (arith, h.sfits) in
    record {
      numbers = IsNumber-signed_decimal (negsuc n) (omega arith);
      shallow = omega arith;
      back = ap (option_map number) (number_of-negative n (omega arith));
      utf8 = IsUtf8-from_ascii (signed_decimal (negsuc n)) (IsAscii-signed (negsuc n) (omega arith));
    }

letter_writable : (s : List ℕ) → IsUtf8 s → IsWritable 0 (string s)
letter_writable s h = record { numbers = tt; shallow = omega arith; back = refl; utf8 = IsUtf8-quoted s h }

rule_writable : (r : Rule) → FitsRule r → IsWritable 0 (rule_json r)
rule_writable Parent h = letter_writable (codes "P") (IsUtf8-are_ascii (codes "P") refl)
rule_writable (Child s) h = word_writable s h
rule_writable Left h = letter_writable (codes "L") (IsUtf8-are_ascii (codes "L") refl)
rule_writable Right h = letter_writable (codes "R") (IsUtf8-are_ascii (codes "R") refl)

-- ---- arrays

record AreWritable (n : ℕ) (ds : Items) : Type 0 where
  numbers : ItemsHaveNumbers (items_outline ds)
  shallow : tree.items_depth (items_outline ds) ≤ n
  back : of_items (items_outline ds) ≡ Some ds
  utf8 : (later : Bool) → IsUtf8 (items_text later ds)

no_items_writable : (n : ℕ) → AreWritable n no_items
no_items_writable n = record { numbers = tt; shallow = omega arith; back = refl; utf8 = λ later. IsUtf8-are_ascii (93 ∷ []) refl }

item_writable : (n : ℕ) (d : Data) (ds : Items) → IsWritable n d → AreWritable n ds → AreWritable n (item d ds)
item_writable n d ds h k = record {
  numbers = (h.numbers, k.numbers);
  shallow = omega (arith, h.shallow, k.shallow);
  back = rw (h.back, k.back);
  utf8 = λ later. comma_utf8 later _ (IsUtf8-append (compact_text d) (items_text true ds) h.utf8 (k.utf8 true));
}

array_writable : (n : ℕ) (ds : Items) → AreWritable n ds → IsWritable (suc n) (array ds)
array_writable n ds h = record {
  numbers = h.numbers;
  shallow = omega (arith, h.shallow);
  back = ap (option_map array) h.back;
  utf8 = byte_utf8 91 (items_text false ds) (IsUtf8-are_ascii (91 ∷ []) refl) (h.utf8 false);
}

entries_writable : {A : Type 0} (n : ℕ) (f : A → Data) (Fits : A → Type 0) → ((x : A) → Fits x → IsWritable n (f x)) → (xs : List A) → All Fits xs → AreWritable n (items_of (map f xs))
entries_writable n f Fits each [] h = no_items_writable n
entries_writable n f Fits each (x ∷ xs) h = item_writable n (f x) (items_of (map f xs)) (each x (All-head Fits x xs h)) (entries_writable n f Fits each xs (All-tail Fits x xs h))

list_writable : {A : Type 0} (n : ℕ) (f : A → Data) (Fits : A → Type 0) → ((x : A) → Fits x → IsWritable n (f x)) → (xs : List A) → All Fits xs → IsWritable (suc n) (list_json f xs)
list_writable n f Fits each xs h = array_writable n _ (entries_writable n f Fits each xs h)

deeper : (m n : ℕ) (d : Data) → m ≤ n → IsWritable m d → IsWritable n d
deeper m n d l h = record { numbers = h.numbers; shallow = omega (arith, h.shallow); back = h.back; utf8 = h.utf8 }

pair_writable : (c : Claim) → FitsPair c → IsWritable 1 (pair_json c)
pair_writable c h = array_writable 0 _ (item_writable 0 (whole c.corner) _ (word_writable c.corner h.corner) (item_writable 0 (whole c.place) no_items (byte_writable c.place h.place) (no_items_writable 0)))

-- ---- objects

record MembersWritable (n : ℕ) (ms : Members) : Type 0 where
  numbers : MembersHaveNumbers (members_outline ms)
  shallow : tree.members_depth (members_outline ms) ≤ n
  utf8 : (later : Bool) → IsUtf8 (members_text later ms)

no_members_writable : (n : ℕ) → MembersWritable n no_members
no_members_writable n = record { numbers = tt; shallow = omega arith; utf8 = λ later. IsUtf8-are_ascii (125 ∷ []) refl }

member_writable : (n : ℕ) (k : List ℕ) (d : Data) (ms : Members) → are_ascii k ≡ true → IsWritable n d → MembersWritable n ms → MembersWritable n (member k d ms)
member_writable n k d ms ascii h more = record {
  numbers = (h.numbers, more.numbers);
  shallow = omega (arith, h.shallow, more.shallow);
  utf8 = λ later. comma_utf8 later _
      (IsUtf8-append (quoted k) _ (IsUtf8-quoted k (IsUtf8-are_ascii k ascii))
      (byte_utf8 58 _ (IsUtf8-are_ascii (58 ∷ []) refl) (IsUtf8-append (compact_text d) (members_text true ms) h.utf8 (more.utf8 true))));
}

object_writable : (n : ℕ) (ms : Members) → of_members (members_outline ms) no_members ≡ Some ms → MembersWritable n ms → IsWritable (suc n) (object ms)
object_writable n ms back h = record {
  numbers = h.numbers;
  shallow = omega (arith, h.shallow);
  back = ap (option_map object) back;
  utf8 = byte_utf8 123 (members_text false ms) (IsUtf8-are_ascii (123 ∷ []) refl) (h.utf8 false);
}

two : Data → Data → Members
two a b = member (codes "h") a (member (codes "outer") b no_members)

two_back : (a b : Data) → of_json (outline a) ≡ Some a → of_json (outline b) ≡ Some b → of_members (members_outline (two a b)) no_members ≡ Some (two a b)
unfolding two
two_back a b p q = rw (p, q)

corner_writable : (g : CornerType) → FitsCorner g → IsWritable 3 (corner_json g)
unfolding two
corner_writable g h =
    let offsets = deeper 1 2 _ (omega arith) (list_writable 0 offset_json (FitsSigned w8) offset_writable g.offsets h.offsets) in
    let outer = deeper 1 2 _ (omega arith) (pair_writable g.outer h.outer) in
    object_writable 2 (two _ _) (two_back _ _ offsets.back outer.back)
    (member_writable 2 (codes "h") _ _ refl offsets (member_writable 2 (codes "outer") _ _ refl outer (no_members_writable 2)))

four : Data → Data → Data → Data → Members
four a b c d = member (codes "claims") a (member (codes "kind") b (member (codes "off") c (member (codes "rules") d no_members)))

four_back : (a b c d : Data) → of_json (outline a) ≡ Some a → of_json (outline b) ≡ Some b → of_json (outline c) ≡ Some c → of_json (outline d) ≡ Some d
    → of_members (members_outline (four a b c d)) no_members ≡ Some (four a b c d)
unfolding four
four_back a b c d p q r s = rw (p, q, r, s)

state_writable : (x : TreeState) → FitsState x → IsWritable 3 (state_json x)
unfolding four
state_writable x h =
    let claims = list_writable 1 pair_json FitsPair pair_writable x.claims h.claims in
    let kind = deeper 0 2 _ (omega arith) (byte_writable x.kind h.kind) in
    let off = deeper 0 2 _ (omega arith) (byte_writable x.off h.off) in
    let rules = deeper 1 2 _ (omega arith) (list_writable 0 rule_json FitsRule rule_writable x.rules h.rules) in
    object_writable 2 (four _ _ _ _) (four_back _ _ _ _ claims.back kind.back off.back rules.back)
    (member_writable 2 (codes "claims") _ _ refl claims (member_writable 2 (codes "kind") _ _ refl kind (member_writable 2 (codes "off") _ _ refl off (member_writable 2 (codes "rules") _ _ refl rules (no_members_writable 2)))))

tables : Data → Data → Data → Data → Members
tables a b c d = member (codes "corners") a (member (codes "roots") b (member (codes "states") c (member (codes "version") d no_members)))

tables_back : (a b c d : Data) → of_json (outline a) ≡ Some a → of_json (outline b) ≡ Some b → of_json (outline c) ≡ Some c → of_json (outline d) ≡ Some d
    → of_members (members_outline (tables a b c d)) no_members ≡ Some (tables a b c d)
unfolding tables
tables_back a b c d p q r s = rw (p, q, r, s)

pub automaton_writable : (a : TreeAutomaton) → FitsTables a → IsWritable 5 (automaton_json a)
unfolding tables
automaton_writable a h =
    let corners = list_writable 3 corner_json FitsCorner corner_writable a.corners h.corners in
    let roots = deeper 1 4 _ (omega arith) (list_writable 0 whole (λ n. n < 2 ^ 32) word_writable a.roots h.roots) in
    let states = list_writable 3 state_json FitsState state_writable a.states h.states in
    let version = deeper 0 4 _ (omega arith) (word_writable 2 (omega arith)) in
    object_writable 4 (tables _ _ _ _) (tables_back _ _ _ _ corners.back roots.back states.back version.back)
    (member_writable 4 (codes "corners") _ _ refl corners (member_writable 4 (codes "roots") _ _ refl roots
    (member_writable 4 (codes "states") _ _ refl states (member_writable 4 (codes "version") _ _ refl version (no_members_writable 4)))))

pub deep_enough : (d : Data) → IsWritable 5 d → IsWritable max_depth d
deep_enough d = deeper 5 max_depth d (omega arith)
