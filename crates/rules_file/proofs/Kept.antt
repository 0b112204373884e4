-- What the parts of an object are once one more member is put.
use Rattle.std.proofs.Common.{◌≡◌, ℕ, ℤ, Bool, true, false, IsTrue, List, get_or, codes, is_some, Option, Some, None, Result, Ok, Err, OnOk, IfOk, IfErr, IfSome, IfNone, refl, sym, ap, ◌∙◌, subst, arith, inl, inr, ◌⊎◌}
use Rattle.std.specs.Prelude.{◌≢◌}
use Rattle.serde_json.specs.Data.{Data, array, object, Items, Members, put}
use Rattle.serde_json.specs.Find.{get, get_member}
use Rattle.serde_json.proofs.Views.{get_member-put, get_member-put_other}
use Rattle.tree_model.specs.declared.Rule.{Rule}
use Rattle.tree_model.specs.declared.Claim.{Claim}
use Rattle.tree_model.specs.Automata.{TreeState, CornerType}
use Rattle.rules_file.specs.Spelling.{SpellsByte, SpellsWord, SpellsOffset, SpellsRule, SpellsPair, SpellEach, SpellsArray, SpellsMember, SpellsCorner, SpellsState, IsFirstMisfit}
use Rattle.rules_file.specs.Faults.{HasNoArray}
use Rattle.rules_file.specs.Parts.{Spelt, HasPart, HasTable, HasEntries, HasCornerParts, HasStateParts, HasTables}

pub spelt_of : {A V : Type 0} (f : V → A) (Spells : Data → A → Type 0) (d : Data) (o : Option V)
    → IfSome o (λ v. Spells d (f v)) → IfNone o ((x : A) → ¬ Spells d x) → Spelt f Spells d o
spelt_of f Spells d None some none = none
spelt_of f Spells d (Some v) some none = some

pub on_ok : {T E P : Type 0} (o : Result T E) → P → OnOk o P
on_ok (Ok t) p = p
on_ok (Err e) p = tt

pub entries_of : {A V : Type 0} (f : V → List A) (Spells : Data → A → Type 0) (d : Data) (ds : Items) (r : Result V ℕ) → d ≡ array ds
    → IfOk r (λ v. SpellEach Spells ds (f v)) → IfErr r (IsFirstMisfit Spells ds) → HasEntries f Spells d (Some r)
entries_of f Spells d ds (Ok v) is found misfit = (ds, is, found)
entries_of f Spells d ds (Err i) is found misfit = (ds, is, misfit)

-- ---- the member that is put, and the others

not_put : {A : Type 0} (Spells : Data → A → Type 0) (name : List ℕ) (d : Data) (ms : Members) → ((x : A) → ¬ Spells d x) → (x : A) → ¬ SpellsMember Spells name (object (put name d ms)) x
not_put Spells name d ms none x (e, found, spelt) =
    let same : d ≡ e = value_of (sym (get_member-put name d ms) ∙ found) in
    none x (subst (λ u. Spells u x) (sym same) spelt)
  where
    value_of : {u v : Data} → Some u ≡ Some v → u ≡ v
    value_of p = cc

pub put_here : {A V : Type 0} (f : V → A) (Spells : Data → A → Type 0) (k name : List ℕ) (d : Data) (ms : Members) (o : Option V) → k ≡ name
    → Spelt f Spells d o → HasPart f Spells name (object (put k d ms)) o
put_here f Spells k name d ms None is h = λ x. subst (λ s. ¬ SpellsMember Spells name (object (put s d ms)) x) (sym is) (not_put Spells name d ms h x)
put_here f Spells k name d ms (Some v) is h = (d, ap (λ s. get_member name (put s d ms)) is ∙ get_member-put name d ms, h)

not_there : {A : Type 0} (Spells : Data → A → Type 0) (k name : List ℕ) (d : Data) (ms : Members) → (name ≡ k → ⊥)
    → ((x : A) → ¬ SpellsMember Spells name (object ms) x) → (x : A) → ¬ SpellsMember Spells name (object (put k d ms)) x
not_there Spells k name d ms other none x (e, found, spelt) = none x (e, sym (get_member-put_other name k d ms other) ∙ found, spelt)

pub put_beside : {A V : Type 0} (f : V → A) (Spells : Data → A → Type 0) (k name : List ℕ) (d : Data) (ms : Members) (o : Option V) → (name ≡ k → ⊥)
    → HasPart f Spells name (object ms) o → HasPart f Spells name (object (put k d ms)) o
put_beside f Spells k name d ms None other h = not_there Spells k name d ms other h
put_beside f Spells k name d ms (Some v) other h = (h.0, get_member-put_other name k d ms other ∙ h.1, h.2)

pub table_here : {A V : Type 0} (f : V → List A) (Spells : Data → A → Type 0) (k name : List ℕ) (d : Data) (ms : Members) (o : Option (Result V ℕ)) → k ≡ name
    → HasEntries f Spells d o → HasTable f Spells name (object (put k d ms)) o
table_here f Spells k name d ms None is h = λ ds e. h ds (value_of (sym (ap (λ s. get_member name (put s d ms)) is ∙ get_member-put name d ms) ∙ e))
  where
    value_of : {u v : Data} → Some u ≡ Some v → u ≡ v
    value_of p = cc
table_here f Spells k name d ms (Some (Ok v)) is h = (d, ap (λ s. get_member name (put s d ms)) is ∙ get_member-put name d ms, h)
table_here f Spells k name d ms (Some (Err i)) is h = (h.0, ap (λ s. get_member name (put s d ms)) is ∙ get_member-put name d ms ∙ ap Some h.1, h.2)

pub table_beside : {A V : Type 0} (f : V → List A) (Spells : Data → A → Type 0) (k name : List ℕ) (d : Data) (ms : Members) (o : Option (Result V ℕ)) → (name ≡ k → ⊥)
    → HasTable f Spells name (object ms) o → HasTable f Spells name (object (put k d ms)) o
table_beside f Spells k name d ms None other h = λ ds e. h ds (sym (get_member-put_other name k d ms other) ∙ e)
table_beside f Spells k name d ms (Some (Ok v)) other h = (h.0, get_member-put_other name k d ms other ∙ h.1, h.2)
table_beside f Spells k name d ms (Some (Err i)) other h = (h.0, get_member-put_other name k d ms other ∙ h.1, h.2)

-- names that differ in a letter
pub differs : (i : ℕ) (s t k : List ℕ) → k ≡ t → (get_or s i 0 ≡ get_or t i 0 → ⊥) → s ≡ k → ⊥
differs i s t k is apart e = apart (ap (λ u. get_or u i 0) (e ∙ is))

-- ---- part by part

pub corner_h : {V : Type 0} (f : V → List ℤ) (d : Data) (k : List ℕ) (ms : Members) (hs : Option V) (pair : Option Claim) (word : Option ℕ) (new : Option V) → k ≡ codes "h"
    → Spelt f (SpellsArray SpellsOffset) d new → HasCornerParts f (object ms) hs pair word → HasCornerParts f (object (put k d ms)) new pair word
corner_h f d k ms hs pair word new is now was = record {
  h = put_here f (SpellsArray SpellsOffset) k (codes "h") d ms new is now;
  outer = put_beside (λ c. c) SpellsPair k (codes "outer") d ms pair (differs 0 (codes "outer") (codes "h") k is (λ q. omega (arith, q))) was.outer;
  rank = put_beside (λ n. n) SpellsWord k (codes "rank") d ms word (differs 0 (codes "rank") (codes "h") k is (λ q. omega (arith, q))) was.rank;
}

pub corner_outer : {V : Type 0} (f : V → List ℤ) (d : Data) (k : List ℕ) (ms : Members) (hs : Option V) (pair : Option Claim) (word : Option ℕ) (new : Option Claim) → k ≡ codes "outer"
    → Spelt (λ c. c) SpellsPair d new → HasCornerParts f (object ms) hs pair word → HasCornerParts f (object (put k d ms)) hs new word
corner_outer f d k ms hs pair word new is now was = record {
  h = put_beside f (SpellsArray SpellsOffset) k (codes "h") d ms hs (differs 0 (codes "h") (codes "outer") k is (λ q. omega (arith, q))) was.h;
  outer = put_here (λ c. c) SpellsPair k (codes "outer") d ms new is now;
  rank = put_beside (λ n. n) SpellsWord k (codes "rank") d ms word (differs 0 (codes "rank") (codes "outer") k is (λ q. omega (arith, q))) was.rank;
}

pub corner_rank : {V : Type 0} (f : V → List ℤ) (d : Data) (k : List ℕ) (ms : Members) (hs : Option V) (pair : Option Claim) (word : Option ℕ) (new : Option ℕ) → k ≡ codes "rank"
    → Spelt (λ n. n) SpellsWord d new → HasCornerParts f (object ms) hs pair word → HasCornerParts f (object (put k d ms)) hs pair new
corner_rank f d k ms hs pair word new is now was = record {
  h = put_beside f (SpellsArray SpellsOffset) k (codes "h") d ms hs (differs 0 (codes "h") (codes "rank") k is (λ q. omega (arith, q))) was.h;
  outer = put_beside (λ c. c) SpellsPair k (codes "outer") d ms pair (differs 0 (codes "outer") (codes "rank") k is (λ q. omega (arith, q))) was.outer;
  rank = put_here (λ n. n) SpellsWord k (codes "rank") d ms new is now;
}

pub corner_other : {V : Type 0} (f : V → List ℤ) (d : Data) (k : List ℕ) (ms : Members) (hs : Option V) (pair : Option Claim) (word : Option ℕ)
    → (codes "h" ≡ k → ⊥) → (codes "outer" ≡ k → ⊥) → (codes "rank" ≡ k → ⊥) → HasCornerParts f (object ms) hs pair word → HasCornerParts f (object (put k d ms)) hs pair word
corner_other f d k ms hs pair word n0 n1 n2 was = record {
  h = put_beside f (SpellsArray SpellsOffset) k (codes "h") d ms hs n0 was.h;
  outer = put_beside (λ c. c) SpellsPair k (codes "outer") d ms pair n1 was.outer;
  rank = put_beside (λ n. n) SpellsWord k (codes "rank") d ms word n2 was.rank;
}

pub state_kind : {V W : Type 0} (f : V → List Rule) (g : W → List Claim) (d : Data) (k : List ℕ) (ms : Members) (kind : Option ℕ) (off : Option ℕ) (rs : Option V) (cs : Option W) (new : Option ℕ) → k ≡ codes "kind"
    → Spelt (λ n. n) SpellsByte d new → HasStateParts f g (object ms) kind off rs cs → HasStateParts f g (object (put k d ms)) new off rs cs
state_kind f g d k ms kind off rs cs new is now was = record {
  kind = put_here (λ n. n) SpellsByte k (codes "kind") d ms new is now;
  off = put_beside (λ n. n) SpellsByte k (codes "off") d ms off (differs 0 (codes "off") (codes "kind") k is (λ q. omega (arith, q))) was.off;
  rules = put_beside f (SpellsArray SpellsRule) k (codes "rules") d ms rs (differs 0 (codes "rules") (codes "kind") k is (λ q. omega (arith, q))) was.rules;
  claims = put_beside g (SpellsArray SpellsPair) k (codes "claims") d ms cs (differs 0 (codes "claims") (codes "kind") k is (λ q. omega (arith, q))) was.claims;
}

pub state_off : {V W : Type 0} (f : V → List Rule) (g : W → List Claim) (d : Data) (k : List ℕ) (ms : Members) (kind : Option ℕ) (off : Option ℕ) (rs : Option V) (cs : Option W) (new : Option ℕ) → k ≡ codes "off"
    → Spelt (λ n. n) SpellsByte d new → HasStateParts f g (object ms) kind off rs cs → HasStateParts f g (object (put k d ms)) kind new rs cs
state_off f g d k ms kind off rs cs new is now was = record {
  kind = put_beside (λ n. n) SpellsByte k (codes "kind") d ms kind (differs 0 (codes "kind") (codes "off") k is (λ q. omega (arith, q))) was.kind;
  off = put_here (λ n. n) SpellsByte k (codes "off") d ms new is now;
  rules = put_beside f (SpellsArray SpellsRule) k (codes "rules") d ms rs (differs 0 (codes "rules") (codes "off") k is (λ q. omega (arith, q))) was.rules;
  claims = put_beside g (SpellsArray SpellsPair) k (codes "claims") d ms cs (differs 0 (codes "claims") (codes "off") k is (λ q. omega (arith, q))) was.claims;
}

pub state_rules : {V W : Type 0} (f : V → List Rule) (g : W → List Claim) (d : Data) (k : List ℕ) (ms : Members) (kind : Option ℕ) (off : Option ℕ) (rs : Option V) (cs : Option W) (new : Option V) → k ≡ codes "rules"
    → Spelt f (SpellsArray SpellsRule) d new → HasStateParts f g (object ms) kind off rs cs → HasStateParts f g (object (put k d ms)) kind off new cs
state_rules f g d k ms kind off rs cs new is now was = record {
  kind = put_beside (λ n. n) SpellsByte k (codes "kind") d ms kind (differs 0 (codes "kind") (codes "rules") k is (λ q. omega (arith, q))) was.kind;
  off = put_beside (λ n. n) SpellsByte k (codes "off") d ms off (differs 0 (codes "off") (codes "rules") k is (λ q. omega (arith, q))) was.off;
  rules = put_here f (SpellsArray SpellsRule) k (codes "rules") d ms new is now;
  claims = put_beside g (SpellsArray SpellsPair) k (codes "claims") d ms cs (differs 0 (codes "claims") (codes "rules") k is (λ q. omega (arith, q))) was.claims;
}

pub state_claims : {V W : Type 0} (f : V → List Rule) (g : W → List Claim) (d : Data) (k : List ℕ) (ms : Members) (kind : Option ℕ) (off : Option ℕ) (rs : Option V) (cs : Option W) (new : Option W) → k ≡ codes "claims"
    → Spelt g (SpellsArray SpellsPair) d new → HasStateParts f g (object ms) kind off rs cs → HasStateParts f g (object (put k d ms)) kind off rs new
state_claims f g d k ms kind off rs cs new is now was = record {
  kind = put_beside (λ n. n) SpellsByte k (codes "kind") d ms kind (differs 0 (codes "kind") (codes "claims") k is (λ q. omega (arith, q))) was.kind;
  off = put_beside (λ n. n) SpellsByte k (codes "off") d ms off (differs 0 (codes "off") (codes "claims") k is (λ q. omega (arith, q))) was.off;
  rules = put_beside f (SpellsArray SpellsRule) k (codes "rules") d ms rs (differs 0 (codes "rules") (codes "claims") k is (λ q. omega (arith, q))) was.rules;
  claims = put_here g (SpellsArray SpellsPair) k (codes "claims") d ms new is now;
}

pub state_other : {V W : Type 0} (f : V → List Rule) (g : W → List Claim) (d : Data) (k : List ℕ) (ms : Members) (kind : Option ℕ) (off : Option ℕ) (rs : Option V) (cs : Option W)
    → (codes "kind" ≡ k → ⊥) → (codes "off" ≡ k → ⊥) → (codes "rules" ≡ k → ⊥) → (codes "claims" ≡ k → ⊥) → HasStateParts f g (object ms) kind off rs cs → HasStateParts f g (object (put k d ms)) kind off rs cs
state_other f g d k ms kind off rs cs n0 n1 n2 n3 was = record {
  kind = put_beside (λ n. n) SpellsByte k (codes "kind") d ms kind n0 was.kind;
  off = put_beside (λ n. n) SpellsByte k (codes "off") d ms off n1 was.off;
  rules = put_beside f (SpellsArray SpellsRule) k (codes "rules") d ms rs n2 was.rules;
  claims = put_beside g (SpellsArray SpellsPair) k (codes "claims") d ms cs n3 was.claims;
}

pub tables_version : {U V W : Type 0} (e : U → List ℕ) (f : V → List CornerType) (g : W → List TreeState) (ranked : Bool) (d : Data) (k : List ℕ) (ms : Members) (number : Option ℕ) (size : Option ℕ) (rs : Option (Result U ℕ)) (cs : Option (Result V ℕ)) (ss : Option (Result W ℕ)) (new : Option ℕ) → k ≡ codes "version"
    → Spelt (λ n. n) SpellsWord d new → HasTables e f g ranked (object ms) number size rs cs ss → HasTables e f g ranked (object (put k d ms)) new size rs cs ss
tables_version e f g ranked d k ms number size rs cs ss new is now was = record {
  version = put_here (λ n. n) SpellsWord k (codes "version") d ms new is now;
  scale = put_beside (λ n. n) SpellsWord k (codes "scale") d ms size (differs 0 (codes "scale") (codes "version") k is (λ q. omega (arith, q))) was.scale;
  roots = table_beside e SpellsWord k (codes "roots") d ms rs (differs 0 (codes "roots") (codes "version") k is (λ q. omega (arith, q))) was.roots;
  corners = table_beside f (SpellsCorner ranked) k (codes "corners") d ms cs (differs 0 (codes "corners") (codes "version") k is (λ q. omega (arith, q))) was.corners;
  states = table_beside g SpellsState k (codes "states") d ms ss (differs 0 (codes "states") (codes "version") k is (λ q. omega (arith, q))) was.states;
}

pub tables_scale : {U V W : Type 0} (e : U → List ℕ) (f : V → List CornerType) (g : W → List TreeState) (ranked : Bool) (d : Data) (k : List ℕ) (ms : Members) (number : Option ℕ) (size : Option ℕ) (rs : Option (Result U ℕ)) (cs : Option (Result V ℕ)) (ss : Option (Result W ℕ)) (new : Option ℕ) → k ≡ codes "scale"
    → Spelt (λ n. n) SpellsWord d new → HasTables e f g ranked (object ms) number size rs cs ss → HasTables e f g ranked (object (put k d ms)) number new rs cs ss
tables_scale e f g ranked d k ms number size rs cs ss new is now was = record {
  version = put_beside (λ n. n) SpellsWord k (codes "version") d ms number (differs 0 (codes "version") (codes "scale") k is (λ q. omega (arith, q))) was.version;
  scale = put_here (λ n. n) SpellsWord k (codes "scale") d ms new is now;
  roots = table_beside e SpellsWord k (codes "roots") d ms rs (differs 0 (codes "roots") (codes "scale") k is (λ q. omega (arith, q))) was.roots;
  corners = table_beside f (SpellsCorner ranked) k (codes "corners") d ms cs (differs 0 (codes "corners") (codes "scale") k is (λ q. omega (arith, q))) was.corners;
  states = table_beside g SpellsState k (codes "states") d ms ss (differs 1 (codes "states") (codes "scale") k is (λ q. omega (arith, q))) was.states;
}

pub tables_roots : {U V W : Type 0} (e : U → List ℕ) (f : V → List CornerType) (g : W → List TreeState) (ranked : Bool) (d : Data) (k : List ℕ) (ms : Members) (number : Option ℕ) (size : Option ℕ) (rs : Option (Result U ℕ)) (cs : Option (Result V ℕ)) (ss : Option (Result W ℕ)) (new : Option (Result U ℕ)) → k ≡ codes "roots"
    → HasEntries e SpellsWord d new → HasTables e f g ranked (object ms) number size rs cs ss → HasTables e f g ranked (object (put k d ms)) number size new cs ss
tables_roots e f g ranked d k ms number size rs cs ss new is now was = record {
  version = put_beside (λ n. n) SpellsWord k (codes "version") d ms number (differs 0 (codes "version") (codes "roots") k is (λ q. omega (arith, q))) was.version;
  scale = put_beside (λ n. n) SpellsWord k (codes "scale") d ms size (differs 0 (codes "scale") (codes "roots") k is (λ q. omega (arith, q))) was.scale;
  roots = table_here e SpellsWord k (codes "roots") d ms new is now;
  corners = table_beside f (SpellsCorner ranked) k (codes "corners") d ms cs (differs 0 (codes "corners") (codes "roots") k is (λ q. omega (arith, q))) was.corners;
  states = table_beside g SpellsState k (codes "states") d ms ss (differs 0 (codes "states") (codes "roots") k is (λ q. omega (arith, q))) was.states;
}

pub tables_corners : {U V W : Type 0} (e : U → List ℕ) (f : V → List CornerType) (g : W → List TreeState) (ranked : Bool) (d : Data) (k : List ℕ) (ms : Members) (number : Option ℕ) (size : Option ℕ) (rs : Option (Result U ℕ)) (cs : Option (Result V ℕ)) (ss : Option (Result W ℕ)) (new : Option (Result V ℕ)) → k ≡ codes "corners"
    → HasEntries f (SpellsCorner ranked) d new → HasTables e f g ranked (object ms) number size rs cs ss → HasTables e f g ranked (object (put k d ms)) number size rs new ss
tables_corners e f g ranked d k ms number size rs cs ss new is now was = record {
  version = put_beside (λ n. n) SpellsWord k (codes "version") d ms number (differs 0 (codes "version") (codes "corners") k is (λ q. omega (arith, q))) was.version;
  scale = put_beside (λ n. n) SpellsWord k (codes "scale") d ms size (differs 0 (codes "scale") (codes "corners") k is (λ q. omega (arith, q))) was.scale;
  roots = table_beside e SpellsWord k (codes "roots") d ms rs (differs 0 (codes "roots") (codes "corners") k is (λ q. omega (arith, q))) was.roots;
  corners = table_here f (SpellsCorner ranked) k (codes "corners") d ms new is now;
  states = table_beside g SpellsState k (codes "states") d ms ss (differs 0 (codes "states") (codes "corners") k is (λ q. omega (arith, q))) was.states;
}

pub tables_states : {U V W : Type 0} (e : U → List ℕ) (f : V → List CornerType) (g : W → List TreeState) (ranked : Bool) (d : Data) (k : List ℕ) (ms : Members) (number : Option ℕ) (size : Option ℕ) (rs : Option (Result U ℕ)) (cs : Option (Result V ℕ)) (ss : Option (Result W ℕ)) (new : Option (Result W ℕ)) → k ≡ codes "states"
    → HasEntries g SpellsState d new → HasTables e f g ranked (object ms) number size rs cs ss → HasTables e f g ranked (object (put k d ms)) number size rs cs new
tables_states e f g ranked d k ms number size rs cs ss new is now was = record {
  version = put_beside (λ n. n) SpellsWord k (codes "version") d ms number (differs 0 (codes "version") (codes "states") k is (λ q. omega (arith, q))) was.version;
  scale = put_beside (λ n. n) SpellsWord k (codes "scale") d ms size (differs 1 (codes "scale") (codes "states") k is (λ q. omega (arith, q))) was.scale;
  roots = table_beside e SpellsWord k (codes "roots") d ms rs (differs 0 (codes "roots") (codes "states") k is (λ q. omega (arith, q))) was.roots;
  corners = table_beside f (SpellsCorner ranked) k (codes "corners") d ms cs (differs 0 (codes "corners") (codes "states") k is (λ q. omega (arith, q))) was.corners;
  states = table_here g SpellsState k (codes "states") d ms new is now;
}

pub tables_other : {U V W : Type 0} (e : U → List ℕ) (f : V → List CornerType) (g : W → List TreeState) (ranked : Bool) (d : Data) (k : List ℕ) (ms : Members) (number : Option ℕ) (size : Option ℕ) (rs : Option (Result U ℕ)) (cs : Option (Result V ℕ)) (ss : Option (Result W ℕ))
    → (codes "version" ≡ k → ⊥) → (codes "scale" ≡ k → ⊥) → (codes "roots" ≡ k → ⊥) → (codes "corners" ≡ k → ⊥) → (codes "states" ≡ k → ⊥) → HasTables e f g ranked (object ms) number size rs cs ss → HasTables e f g ranked (object (put k d ms)) number size rs cs ss
tables_other e f g ranked d k ms number size rs cs ss n0 n1 n2 n3 n4 was = record {
  version = put_beside (λ n. n) SpellsWord k (codes "version") d ms number n0 was.version;
  scale = put_beside (λ n. n) SpellsWord k (codes "scale") d ms size n1 was.scale;
  roots = table_beside e SpellsWord k (codes "roots") d ms rs n2 was.roots;
  corners = table_beside f (SpellsCorner ranked) k (codes "corners") d ms cs n3 was.corners;
  states = table_beside g SpellsState k (codes "states") d ms ss n4 was.states;
}
