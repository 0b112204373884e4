-- Reading by the grammar of `json`, with what was read turned into the data of `serde_json`.
use Rattle.std.proofs.Common.{◌≡◌, ℕ, ◌-◌, ◌<◌, ◌≤◌, List, [], ◌∷◌, length, Option, Some, None, option_map, option_and_then, refl, sym, ap, ◌∙◌, inl, inr, ◌⊎◌}
use Rattle.json.specs.Token.{Token}
use Rattle.json.specs.Json as json
use Rattle.json.specs.Json.{Parse, parse_map, after_end_array, read_key, items, members, if_last}
use Rattle.json.proofs.Grammar.{items_more, items_fail, members_more, members_fail}
use Rattle.serde_json.specs.Data.{Data, array, object, Items, no_items, item, Members, no_members, put}
use Rattle.serde_json.specs.Read.{of_json, of_items, of_members, converted}

-- where something was read and turned
pub record Turned {A B : Type 0} (f : A → Option B) (o : Option (A × List Token)) (b : B) (r : List Token) : Type 0 where
  pub source : A
  pub parsed : o ≡ Some (source, r)
  pub turns : f source ≡ Some b

-- nothing was read, or it cannot be turned
pub record Unturned {A B : Type 0} (f : A → Option B) (o : Option (A × List Token)) : Type 0 where
  pub source : A
  pub rest : List Token
  pub parsed : o ≡ Some (source, rest)
  pub fails : f source ≡ None

abbrev paired : {B : Type 0} → List Token → Option B → Option (B × List Token)
paired r x = option_map (λ y. (y, r)) x

abbrev value_or : {B : Type 0} → B → Option (B × List Token) → B
value_or b None = b
value_or b (Some p) = p.0

abbrev rest_or : {B : Type 0} → List Token → Option (B × List Token) → List Token
rest_or r None = r
rest_or r (Some p) = p.1

paired_some : {B : Type 0} (b : B) (r s : List Token) (x : Option B) → paired r x ≡ Some (b, s) → (r ≡ s) × (x ≡ Some b)
paired_some b r s None e = absurd (cc)
paired_some b r s (Some y) e = (ap (rest_or r) e, ap (λ o. Some (value_or y o)) e)

paired_none : {B : Type 0} (r : List Token) (x : Option B) → paired r x ≡ None → x ≡ None
paired_none r None e = refl
paired_none r (Some y) e = absurd (cc)

pub turned : {A B : Type 0} (f : A → Option B) (o : Option (A × List Token)) (b : B) (r : List Token) → converted f o ≡ Some (b, r) → Turned f o b r
turned f None b r e = absurd (cc)
turned f (Some p) b r e =
    let both = paired_some b p.1 r (f p.0) e in
    record { source = p.0; parsed = ap (λ s. Some (p.0, s)) both.0; turns = both.1 }

pub unturned : {A B : Type 0} (f : A → Option B) (o : Option (A × List Token)) → converted f o ≡ None → (o ≡ None) ⊎ Unturned f o
unturned f None e = inl refl
unturned f (Some p) e = inr (record { source = p.0; rest = p.1; parsed = refl; fails = paired_none p.1 (f p.0) e })

mapped : {A B : Type 0} (g : A → B) (r : List Token) (x : Option A) → paired r (option_map g x) ≡ parse_map g (paired r x)
mapped g r None = refl
mapped g r (Some a) = refl

pub to_array : (o : Option (json.Items × List Token)) → converted of_json (parse_map json.array o) ≡ parse_map array (converted of_items o)
to_array None = refl
to_array (Some p) = mapped array p.1 (of_items p.0)

pub to_object : (o : Option (json.Members × List Token)) → converted of_json (parse_map json.object o) ≡ parse_map object (converted (λ ms. of_members ms no_members) o)
to_object None = refl
to_object (Some p) = mapped object p.1 (of_members p.0 no_members)

item_first : (j : json.Json) (d : Data) (o : Option (json.Items × List Token)) → of_json j ≡ Some d → converted of_items (parse_map (json.item j) o) ≡ parse_map (item d) (converted of_items o)
item_first j d None e = refl
item_first j d (Some p) e = ap (λ x. paired p.1 (option_and_then (λ c. option_map (item c) (of_items p.0)) x)) e ∙ mapped (item d) p.1 (of_items p.0)

bad_item : (j : json.Json) (o : Option (json.Items × List Token)) → of_json j ≡ None → converted of_items (parse_map (json.item j) o) ≡ None
bad_item j None e = refl
bad_item j (Some p) e = ap (λ x. paired p.1 (option_and_then (λ c. option_map (item c) (of_items p.0)) x)) e

member_first : (k : List ℕ) (j : json.Json) (d : Data) (old : Members) (o : Option (json.Members × List Token)) → of_json j ≡ Some d
    → converted (λ ms. of_members ms old) (parse_map (json.member k j) o) ≡ converted (λ ms. of_members ms (put k d old)) o
member_first k j d old None e = refl
member_first k j d old (Some p) e = ap (λ x. paired p.1 (option_and_then (λ c. of_members p.0 (put k c old)) x)) e

bad_member : (k : List ℕ) (j : json.Json) (old : Members) (o : Option (json.Members × List Token)) → of_json j ≡ None → converted (λ ms. of_members ms old) (parse_map (json.member k j) o) ≡ None
bad_member k j old None e = refl
bad_member k j old (Some p) e = ap (λ x. paired p.1 (option_and_then (λ c. of_members p.0 (put k c old)) x)) e

module _ (p : Parse json.Json) where
  pub one_item : (n : ℕ) (ts r : List Token) (d : Data) → 0 < n → after_end_array ts ≡ None → converted of_json (p ts) ≡ Some (d, r)
      → converted of_items (items p n ts) ≡ parse_map (item d) (converted of_items (items p (n - 1) r))
  one_item n ts r d some going e =
      let t = turned of_json (p ts) d r e in
      ap (converted of_items) (items_more p n ts r t.source some going t.parsed) ∙ item_first t.source d (items p (n - 1) r) t.turns

  pub no_item : (n : ℕ) (ts : List Token) → 0 < n → after_end_array ts ≡ None → converted of_json (p ts) ≡ None → converted of_items (items p n ts) ≡ None
  no_item n ts some going e = go (unturned of_json (p ts) e)
    where
      go : (p ts ≡ None) ⊎ Unturned of_json (p ts) → converted of_items (items p n ts) ≡ None
      go (inl none) = ap (converted of_items) (items_fail p n ts going none)
      go (inr u) = ap (converted of_items) (items_more p n ts u.rest u.source some going u.parsed) ∙ bad_item u.source (items p (n - 1) u.rest) u.fails

  pub one_member : (old : Members) (n : ℕ) (k : List ℕ) (ts s r : List Token) (d : Data) → 0 < n → read_key ts ≡ Some (Some k, s) → converted of_json (p s) ≡ Some (d, r)
      → converted (λ ms. of_members ms old) (members p n ts) ≡ converted (λ ms. of_members ms (put k d old)) (members p (n - 1) r)
  one_member old n k ts s r d some named e =
      let t = turned of_json (p s) d r e in
      ap (converted (λ ms. of_members ms old)) (members_more p n k ts s r t.source some named t.parsed) ∙ member_first k t.source d old (members p (n - 1) r) t.turns

  pub no_member : (old : Members) (n : ℕ) (k : List ℕ) (ts s : List Token) → 0 < n → read_key ts ≡ Some (Some k, s) → converted of_json (p s) ≡ None
      → converted (λ ms. of_members ms old) (members p n ts) ≡ None
  no_member old n k ts s some named e = go (unturned of_json (p s) e)
    where
      go : (p s ≡ None) ⊎ Unturned of_json (p s) → converted (λ ms. of_members ms old) (members p n ts) ≡ None
      go (inl none) = ap (converted (λ ms. of_members ms old)) (members_fail p n k ts s named none)
      go (inr u) = ap (converted (λ ms. of_members ms old)) (members_more p n k ts s u.rest u.source some named u.parsed) ∙ bad_member k u.source old (members p (n - 1) u.rest) u.fails

-- ---- a whole text

abbrev pub whole : Option (json.Json × List Token) → Option Data
whole o = option_and_then of_json (option_and_then (λ p. if_last p.0 p.1) o)

pub whole_of : (o : Option (json.Json × List Token)) (d : Data) → converted of_json o ≡ Some (d, []) → whole o ≡ Some d
whole_of o d e = let t = turned of_json o d [] e in ap whole t.parsed ∙ t.turns

pub whole_and_more : (o : Option (json.Json × List Token)) (d : Data) (t : Token) (r : List Token) → converted of_json o ≡ Some (d, t ∷ r) → whole o ≡ None
whole_and_more o d t r e = ap whole (turned of_json o d (t ∷ r) e).parsed

pub whole_broken : (o : Option (json.Json × List Token)) → converted of_json o ≡ None → whole o ≡ None
whole_broken o e = go (unturned of_json o e)
  where
    last : (u : Unturned of_json o) (ts : List Token) → option_and_then of_json (if_last u.source ts) ≡ None
    last u [] = u.fails
    last u (t ∷ ts) = refl

    go : (o ≡ None) ⊎ Unturned of_json o → whole o ≡ None
    go (inl none) = ap whole none
    go (inr u) = ap whole u.parsed ∙ last u u.rest
