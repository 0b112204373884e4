-- What the parts of an object come to.
use Rattle.std.proofs.Common.{◌≡◌, ℕ, ◌<◌, ◌^◌, ℤ, Bool, true, false, IsTrue, List, [], ◌∷◌, codes, is_some, Option, Some, None, Result, Ok, Err, MatchOption, IsErrAnd, IfErr, refl, sym, ap, ◌∙◌, subst, arith, inl, inr, ◌⊎◌}
use Rattle.json.specs.Token.{Token}
use Rattle.json.specs.Lex.{tokens}
use Rattle.serde_json.specs.Data.{Data, object, Members}
use Rattle.serde_json.specs.Find.{get}
use Rattle.serde_json.specs.Read.{read}
use Rattle.tree_model.specs.declared.Rule.{Rule}
use Rattle.tree_model.specs.declared.Claim.{Claim}
use Rattle.tree_model.specs.Automata.{TreeState, CornerType}
use Rattle.rules_file.specs.declared.fault.Part.{Part}
use Rattle.rules_file.specs.declared.fault.Part.TheVariants.{Whole, Version, Scale, Roots, Corners, Corner, States, State}
use Rattle.rules_file.specs.declared.fault.RulesFault.{RulesFault}
use Rattle.rules_file.specs.declared.fault.RulesFault.TheVariants.{Shape}
use Rattle.rules_file.specs.Spelling.{whole, version_of, SpellsByte, SpellsWord, SpellsOffset, SpellsRule, SpellsPair, SpellsArray, SpellsMember, SpellsCorner, SpellsState, HasWord, HasVersion}
use Rattle.rules_file.specs.Faults.{IsNoObject, HasSmallArrays, FailsAt, turn, IsFirstFault, RefusesTable, no_array, bad_entry}
use Rattle.rules_file.specs.Parts.{HasPart, HasTable, HasCornerParts, HasStateParts, table_result, IsSmall}
use Rattle.rules_file.specs.Taking.{text_value, value_at, HasValue}
use Rattle.rules_file.proofs.Failures.{place_within, one_version}
use Rattle.rules_file.proofs.Taking.{text_whole, text_and_more}

pub said : {A V : Type 0} (f : V → A) (Spells : Data → A → Type 0) (name : List ℕ) (d : Data) (o : Option V) (v : V) → o ≡ Some v → HasPart f Spells name d o → SpellsMember Spells name d (f v)
said f Spells name d o v is h = subst (HasPart f Spells name d) is h

pub unsaid : {A V : Type 0} (f : V → A) (Spells : Data → A → Type 0) (name : List ℕ) (d : Data) (o : Option V) → o ≡ None → HasPart f Spells name d o → (x : A) → ¬ SpellsMember Spells name d x
unsaid f Spells name d o is h = subst (HasPart f Spells name d) is h

-- the word is there where it has to be
pub word_there : (name : List ℕ) (d : Data) (ranked : Bool) (word : Option ℕ) → (ranked ≡ false) ⊎ (is_some word ≡ true) → HasPart (λ n. n) SpellsWord name d word → IsTrue ranked → HasWord name d
word_there name d ranked (Some n) h p on = (n, p)
word_there name d ranked None (inl off) p on = absurd (cc)
word_there name d ranked None (inr some) p on = absurd (cc)

no_word : (name : List ℕ) (d : Data) (word : Option ℕ) → is_some word ≡ false → HasPart (λ n. n) SpellsWord name d word → ¬ HasWord name d
no_word name d None none p (n, spelt) = p n spelt
no_word name d (Some n) none p h = absurd (cc)

-- ---- corner types and states

module _ {V : Type 0} (f : V → List ℤ) (ranked : Bool) (d : Data) (hs : Option V) (pair : Option Claim) (word : Option ℕ) (parts : HasCornerParts f d hs pair word) where
  pub corner_spelt : (v : V) (p : Claim) → hs ≡ Some v → pair ≡ Some p → (ranked ≡ false) ⊎ (is_some word ≡ true) → SpellsCorner ranked d (record { offsets = f v; outer = p })
  corner_spelt v p is also rank = record {
    h = said f (SpellsArray SpellsOffset) (codes "h") d hs v is parts.h;
    outer = said (λ c. c) SpellsPair (codes "outer") d pair p also parts.outer;
    rank = word_there (codes "rank") d ranked word rank parts.rank;
  }

  pub no_offsets : hs ≡ None → (x : CornerType) → ¬ SpellsCorner ranked d x
  no_offsets is x h = unsaid f (SpellsArray SpellsOffset) (codes "h") d hs is parts.h x.offsets h.h

  pub no_outer : pair ≡ None → (x : CornerType) → ¬ SpellsCorner ranked d x
  no_outer is x h = unsaid (λ c. c) SpellsPair (codes "outer") d pair is parts.outer x.outer h.outer

  pub no_rank : IsTrue ranked → is_some word ≡ false → (x : CornerType) → ¬ SpellsCorner ranked d x
  no_rank on none x h = no_word (codes "rank") d word none parts.rank (h.rank on)

module _ {V W : Type 0} (f : V → List Rule) (g : W → List Claim) (d : Data) (k o : Option ℕ) (rs : Option V) (cs : Option W) (parts : HasStateParts f g d k o rs cs) where
  pub state_spelt : (i j : ℕ) (v : V) (w : W) → k ≡ Some i → o ≡ Some j → rs ≡ Some v → cs ≡ Some w → SpellsState d (record { kind = i; off = j; rules = f v; claims = g w })
  state_spelt i j v w p q r s = record {
    kind = said (λ n. n) SpellsByte (codes "kind") d k i p parts.kind;
    off = said (λ n. n) SpellsByte (codes "off") d o j q parts.off;
    rules = said f (SpellsArray SpellsRule) (codes "rules") d rs v r parts.rules;
    claims = said g (SpellsArray SpellsPair) (codes "claims") d cs w s parts.claims;
  }

  pub no_kind : k ≡ None → (x : TreeState) → ¬ SpellsState d x
  no_kind is x h = unsaid (λ n. n) SpellsByte (codes "kind") d k is parts.kind x.kind h.kind

  pub no_off : o ≡ None → (x : TreeState) → ¬ SpellsState d x
  no_off is x h = unsaid (λ n. n) SpellsByte (codes "off") d o is parts.off x.off h.off

  pub no_rules : rs ≡ None → (x : TreeState) → ¬ SpellsState d x
  no_rules is x h = unsaid f (SpellsArray SpellsRule) (codes "rules") d rs is parts.rules x.rules h.rules

  pub no_claims : cs ≡ None → (x : TreeState) → ¬ SpellsState d x
  no_claims is x h = unsaid g (SpellsArray SpellsPair) (codes "claims") d cs is parts.claims x.claims h.claims

-- ---- tables

module _ {A V : Type 0} (f : V → List A) (Spells : Data → A → Type 0) (name : List ℕ) (d : Data) (p q : Part) where
  pub table_refused : (o : Option (Result V ℕ)) (e : RulesFault) → Err e ≡ table_result o p q → HasTable f Spells name d o → RefusesTable Spells name d p q e
  table_refused None e is h = subst (RefusesTable Spells name d p q) (sym (fault is)) (no_array h)
    where
      fault : {V : Type 0} {a b : RulesFault} → ◌≡◌ {A = Result V RulesFault} (Err a) (Err b) → a ≡ b
      fault r = cc
  table_refused (Some (Ok v)) e is h = absurd (cc)
  table_refused (Some (Err i)) e is h = subst (RefusesTable Spells name d p q) (sym (fault is)) (bad_entry h.1 h.2)
    where
      fault : {V : Type 0} {a b : RulesFault} → ◌≡◌ {A = Result V RulesFault} (Err a) (Err b) → a ≡ b
      fault r = cc

  pub table_spelt : (o : Option (Result V ℕ)) (v : V) → Ok v ≡ table_result o p q → HasTable f Spells name d o → SpellsMember (SpellsArray Spells) name d (f v)
  table_spelt None v is h = absurd (cc)
  table_spelt (Some (Ok u)) v is h = subst (λ w. SpellsMember (SpellsArray Spells) name d (f w)) (sym (value is)) h
    where
      value : {a b : V} → ◌≡◌ {A = Result V RulesFault} (Ok a) (Ok b) → a ≡ b
      value r = cc
  table_spelt (Some (Err i)) v is h = absurd (cc)

pub small_table : {A V : Type 0} (f : V → List A) (Spells : Data → A → Type 0) (name : List ℕ) (d : Data) (o : Option (Result V ℕ)) → HasSmallArrays d → HasTable f Spells name d o → IsSmall o
small_table f Spells name d o small h i is =
    let bad = subst (HasTable f Spells name d) is h in
    omega (arith, place_within bad.0 i bad.2.entry bad.2.at, small name bad.0 bad.1)

pub handed : {T : Type 0} (P : RulesFault → Type 0) (r : Result T RulesFault) (f : RulesFault) → IsErrAnd r (λ e. e ≡ f) → P f → IfErr r P
handed P (Ok x) f h p = absurd h
handed P (Err e) f h p = subst P (sym h) p

-- ---- the head of a file

pub scale_missing : (d : Data) (word : Option ℕ) → ¬ IsNoObject d → HasVersion true d → is_some word ≡ false → HasPart (λ n. n) SpellsWord (codes "scale") d word → IsFirstFault d Scale 0
scale_missing d word there version none part = record {
  fails = (refl, (version, no_word (codes "scale") d word none part));
  earlier_parts = earlier;
  earlier_entries = λ j l. absurd (omega arith);
}
  where
    earlier : (other : Part) (j : ℕ) → turn other < 2 → ¬ FailsAt other j d
    earlier Whole j l fails = there fails.1
    earlier Version j l fails = fails.1 true version
    earlier Scale j l fails = absurd (omega arith)
    earlier Roots j l fails = absurd (omega arith)
    earlier Corners j l fails = absurd (omega arith)
    earlier Corner j l fails = absurd (omega arith)
    earlier States j l fails = absurd (omega arith)
    earlier State j l fails = absurd (omega arith)

other_word : (d : Data) (ranked : Bool) (o : Option ℕ) → HasPart (λ n. n) SpellsWord (codes "version") d o → HasVersion ranked d → o ≡ Some (version_of ranked)
other_word d ranked None p version = absurd (p (version_of ranked) (whole (version_of ranked), version, record { value = refl; fits = small ranked }))
  where
    small : (b : Bool) → version_of b < 2 ^ 32
    small true = omega arith
    small false = omega arith
other_word d ranked (Some n) p version = ap Some (same p.1 p.2.value version)
  where
    same : {e : Data} {m : ℕ} → get (codes "version") d ≡ Some e → e ≡ whole n → get (codes "version") d ≡ Some (whole m) → n ≡ m
    same a b c = cc

pub same_number : (m n : ℕ) → Some m ≡ Some n → m ≡ n
same_number m n e = cc

pub no_number : (n : ℕ) → None ≡ Some n → ⊥
no_number n e = absurd (cc)

pub version_missing : (d : Data) (o : Option ℕ) → ¬ IsNoObject d → (o ≡ Some 1 → ⊥) → (o ≡ Some 2 → ⊥) → HasPart (λ n. n) SpellsWord (codes "version") d o → IsFirstFault d Version 0
version_missing d o there one two part = record {
  fails = (refl, none);
  earlier_parts = earlier;
  earlier_entries = λ j l. absurd (omega arith);
}
  where
    none : (ranked : Bool) → ¬ HasVersion ranked d
    none true v = one (other_word d true o part v)
    none false v = two (other_word d false o part v)

    earlier : (other : Part) (j : ℕ) → turn other < 1 → ¬ FailsAt other j d
    earlier Whole j l fails = there fails.1
    earlier Version j l fails = absurd (omega arith)
    earlier Scale j l fails = absurd (omega arith)
    earlier Roots j l fails = absurd (omega arith)
    earlier Corners j l fails = absurd (omega arith)
    earlier Corner j l fails = absurd (omega arith)
    earlier States j l fails = absurd (omega arith)
    earlier State j l fails = absurd (omega arith)

-- ---- the end of a text

pub has_ended : {T : Type 0} (tok : T → Token) (text : List ℕ) (ts mid new : List Token) (o : Option T) → ts ≡ tokens text → HasValue 127 ts mid
    → MatchOption o ((mid ≡ []) × (new ≡ [])) (λ t. mid ≡ tok t ∷ new) → false ≡ is_some o → (read text ≡ Some (text_value text)) × (text_value text ≡ value_at 127 ts)
has_ended tok text ts mid new None is has next none =
    let all = text_whole text (subst (λ us. HasValue 127 us []) is (subst (HasValue 127 ts) next.0 has)) in
    (all.0, all.1 ∙ ap (value_at 127) (sym is))
has_ended tok text ts mid new (Some t) is has next none = absurd (cc)

pub has_more : {T : Type 0} (tok : T → Token) (text : List ℕ) (ts mid new : List Token) (o : Option T) → ts ≡ tokens text → HasValue 127 ts mid
    → MatchOption o ((mid ≡ []) × (new ≡ [])) (λ t. mid ≡ tok t ∷ new) → true ≡ is_some o → read text ≡ None
has_more tok text ts mid new None is has next some = absurd (cc)
has_more tok text ts mid new (Some t) is has next some = text_and_more text (tok t) new (subst (λ us. HasValue 127 us (tok t ∷ new)) is (subst (HasValue 127 ts) next has))
