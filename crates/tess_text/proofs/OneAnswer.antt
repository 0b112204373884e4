-- A file has one answer: no two first bad lines, no bad line where it is in the grammar, and no two lists of kinds that it spells.
use Rattle.std.proofs.Common.{◌≡◌, ℕ, suc, ◌<◌, ◌⊎◌, inl, inr, false, List, length, get_or, map, refl, sym, ◌∙◌, ap, ap₂, subst, arith}
use Rattle.std.specs.Prelude.{Result, IsErr, IfOk, IfErr, MatchResult}
use Rattle.std.specs.declared.result.Result.TheVariants.{Ok, Err}
use Rattle.std.proofs.lemmas.List.{same_lists, get_or_default, length-map}
use Rattle.std.proofs.Math.ListN.{get_or-map}
use Rattle.std.proofs.lemmas.Bool.{cases_order}
use Rattle.tile_model.specs.Tessellations.{TileKind}
use Rattle.tile_model.specs.Validity.{IsValid}
use Rattle.tile_model.specs.declared.fault.KindFault.{KindFault}
use Rattle.tile_model.proofs.Refused.{refuted}
use Rattle.tile_model.proofs.OneFault.{one_fault}
use Rattle.handed_kinds.specs.Handed.{HandedKind, no_handed, handed_at, IsSide as IsSideOf, partner_at, valence_at}
use Rattle.handed_kinds.specs.Laws.{OneValidity, FaultsRefute, OneHandedFault}
use Rattle.tess_text.specs.declared.entry.Entry.{Entry}
use Rattle.tess_text.specs.declared.version.Version.{Version}
use Rattle.tess_text.specs.declared.version.Version.TheVariants.{One, Two}
use Rattle.tess_text.specs.declared.fault.TessFault.{TessFault}
use Rattle.tess_text.specs.declared.fault.TessFault.TheVariants.{Line, Kinds, Memory}
use Rattle.tess_text.specs.FileLines.{word_lines}
use Rattle.tess_text.specs.Grammar.{entries, IsInGrammar, IsFirstBadAt, IsFirstBadLine}
use Rattle.tess_text.specs.Laws.{SpeltIsNotRefused, OneRefusal}
use Rattle.tess_text.specs.Spelling.{Spells, plain, kinds_of, IsFaultIn, Says, IsSpelling, IsRefused, IsFaultOf, IsFaultFor}

-- one first bad line
first_same : (lines : List (List (List ℕ))) (i j : ℕ) → IsFirstBadAt lines i → IsFirstBadAt lines j → i ≡ j
first_same lines i j a b = elim (cases_order i j) [
  | inl same ↦ same
  | inr apart ↦ elim apart [ inl before ↦ absurd (a.bad (b.earlier i before)) | inr behind ↦ absurd (b.bad (a.earlier j behind)) ]
]

pub line_same : (bytes : List ℕ) (m n : ℕ) → IsFirstBadLine bytes m → IsFirstBadLine bytes n → m ≡ n
line_same bytes m n a b = a.1 ∙ ap suc (first_same (word_lines bytes) a.0 b.0 a.2 b.2) ∙ sym b.1

-- and none where the file is in the grammar
pub no_bad_line : (bytes : List ℕ) (n : ℕ) → IsInGrammar bytes → IsFirstBadLine bytes n → ⊥
no_bad_line bytes n good bad = bad.2.bad (good bad.0 bad.2.place)

-- one list of kinds
abbrev shape : HandedKind → ℕ × ℕ
shape kind = (kind.sides, kind.repeat)

same_kind : (a b : HandedKind) → a.sides ≡ b.sides → a.repeat ≡ b.repeat → a.partner ≡ b.partner → a.valence ≡ b.valence → a ≡ b
same_kind a b s r p v = λ i. record { sides = s i; repeat = r i; partner = p i; valence = v i }

module _ (es : List Entry) (a b : List HandedKind) (x : Spells es a) (y : Spells es b) where
  same_length : length a ≡ length b
  same_length = sym (length-map a shape) ∙ ap (λ (l : List (ℕ × ℕ)). length l) (x.shapes ∙ sym y.shapes) ∙ length-map b shape

  same_shape : (k : ℕ) → shape (handed_at a k) ≡ shape (handed_at b k)
  same_shape k = sym (get_or-map shape a k no_handed) ∙ ap (λ (l : List (ℕ × ℕ)). get_or l k (0, 0)) (x.shapes ∙ sym y.shapes) ∙ get_or-map shape b k no_handed

  same_repeat : (k : ℕ) → (handed_at a k).repeat ≡ (handed_at b k).repeat
  same_repeat k = ap (λ (p : ℕ × ℕ). p.1) (same_shape k)

  side_there : (d : ℕ × ℕ) → IsSideOf a d → IsSideOf b d
  side_there d side = (omega (arith, same_length, side.0), omega (arith, same_repeat d.0, side.1))

  same_partner : (d : ℕ × ℕ) → IsSideOf a d → partner_at a d ≡ partner_at b d
  same_partner d side =
      let one = x.joined d side in
      let other = y.joined d (side_there d side) in
      cc

  same_valence : (d : ℕ × ℕ) → IsSideOf a d → valence_at a d ≡ valence_at b d
  same_valence d side =
      let one = x.given d side in
      let other = y.given d (side_there d side) in
      cc

  same_partners : (k : ℕ) → k < length a → (handed_at a k).partner ≡ (handed_at b k).partner
  same_partners k lt =
      let there : k < length b = omega (arith, same_length) in
      same_lists (handed_at a k).partner (handed_at b k).partner (x.partners k lt ∙ same_repeat k ∙ sym (y.partners k there)) (λ s d small.
      let side : IsSideOf a (k, s) = (lt, omega (arith, x.partners k lt)) in
      let small_there : s < length (handed_at b k).partner = omega (arith, x.partners k lt, same_repeat k, y.partners k there) in
      get_or_default (handed_at a k).partner s d (0, 0, false) small ∙ same_partner (k, s) side
      ∙ get_or_default (handed_at b k).partner s (0, 0, false) d small_there)

  same_valences : (k : ℕ) → k < length a → (handed_at a k).valence ≡ (handed_at b k).valence
  same_valences k lt =
      let there : k < length b = omega (arith, same_length) in
      same_lists (handed_at a k).valence (handed_at b k).valence (x.valences k lt ∙ same_repeat k ∙ sym (y.valences k there)) (λ s d small.
      let side : IsSideOf a (k, s) = (lt, omega (arith, x.valences k lt)) in
      let small_there : s < length (handed_at b k).valence = omega (arith, x.valences k lt, same_repeat k, y.valences k there) in
      get_or_default (handed_at a k).valence s d 0 small ∙ same_valence (k, s) side ∙ get_or_default (handed_at b k).valence s 0 d small_there)

  pub spells_same : a ≡ b
  spells_same = same_lists a b same_length (λ k d lt.
      let there : k < length b = omega (arith, same_length) in
      get_or_default a k d no_handed lt
      ∙ same_kind (handed_at a k) (handed_at b k) (ap (λ (p : ℕ × ℕ). p.0) (same_shape k)) (same_repeat k) (same_partners k lt) (same_valences k lt)
      ∙ get_or_default b k no_handed d there)

same_said : (bytes : List ℕ) (v w : Version) (a b : List HandedKind) → Says bytes v a → Says bytes w b → (v ≡ w) × (a ≡ b)
same_said bytes v w a b x y = (x.head ∙ sym y.head, spells_same (entries (word_lines bytes)) a b x.spells y.spells)

pub spelling_same : (bytes : List ℕ) (a b : List TileKind) → IsSpelling bytes a → IsSpelling bytes b → a ≡ b
spelling_same bytes a b x y =
    let same = same_said bytes x.version y.version x.said y.said x.says y.says in
    x.value ∙ ap₂ kinds_of same.0 same.1 ∙ sym y.value

-- kinds with a fault are no tessellation
module _ (validity : OneValidity) (refutes : FaultsRefute) where
  refuted_in : (version : Version) (said : List HandedKind) (fault : KindFault) → IsFaultIn version said fault → IsValid (kinds_of version said) → ⊥
  refuted_in One said fault has valid = refuted (map plain said) fault has valid
  refuted_in Two said fault has valid = refutes said fault has ((validity said).1 valid)

  pub not_refused : (bytes : List ℕ) (kinds : List TileKind) (fault : KindFault) → IsSpelling bytes kinds → IsValid kinds → IsRefused bytes fault → ⊥
  not_refused bytes kinds fault spelling valid refused =
      let same = same_said bytes spelling.version refused.version spelling.said refused.said spelling.says refused.says in
      refuted_in refused.version refused.said fault refused.refused (subst IsValid (spelling.value ∙ ap₂ kinds_of same.0 same.1) valid)

-- and have one fault
module _ (one : OneHandedFault) where
  one_fault_in : (version : Version) (said : List HandedKind) (f g : KindFault) → IsFaultIn version said f → IsFaultIn version said g → f ≡ g
  one_fault_in One said f g has_f has_g = one_fault (map plain said) f g has_f has_g
  one_fault_in Two said f g has_f has_g = one said f g has_f has_g

  pub same_fault : (bytes : List ℕ) (f g : KindFault) → IsRefused bytes f → IsRefused bytes g → f ≡ g
  same_fault bytes f g x y =
      let same = same_said bytes x.version y.version x.said y.said x.says y.says in
      one_fault_in y.version y.said f g (subst (λ (v : Version). IsFaultIn v y.said f) same.0 (subst (λ (said : List HandedKind). IsFaultIn x.version said f) same.1 x.refused)) y.refused

-- so that each answer with its cause is the only one
only_memory : SpeltIsNotRefused → (bytes : List ℕ) (e : TessFault) (kinds : List TileKind) → IsFaultOf bytes e → IsSpelling bytes kinds → IsValid kinds → e ≡ Memory
only_memory apart bytes (Line n) kinds cause spelling valid = absurd (no_bad_line bytes n spelling.says.grammar cause)
only_memory apart bytes (Kinds fault) kinds cause spelling valid = absurd (apart bytes kinds fault spelling valid cause)
only_memory apart bytes Memory kinds cause spelling valid = refl

only_line : (bytes : List ℕ) (e : TessFault) (n : ℕ) → IsFaultOf bytes e → IsFirstBadLine bytes n → (e ≡ Line n) ⊎ (e ≡ Memory)
only_line bytes (Line m) n cause bad = inl (ap (λ (k : ℕ). Line k) (line_same bytes m n cause bad))
only_line bytes (Kinds fault) n cause bad = absurd (no_bad_line bytes n cause.says.grammar bad)
only_line bytes Memory n cause bad = inr refl

only_fault : OneRefusal → (bytes : List ℕ) (e : TessFault) (fault : KindFault) → IsFaultOf bytes e → IsRefused bytes fault → (e ≡ Kinds fault) ⊎ (e ≡ Memory)
only_fault one bytes (Line n) fault cause refused = absurd (no_bad_line bytes n refused.says.grammar cause)
only_fault one bytes (Kinds other) fault cause refused = inl (ap (λ (f : KindFault). Kinds f) (one bytes other fault cause refused))
only_fault one bytes Memory fault cause refused = inr refl

-- the fault of the kinds that a file says is a fault of the file
fault_of : (bytes : List ℕ) (version : Version) (said : List HandedKind) (e : TessFault) → Says bytes version said → IsFaultFor version said e → IsFaultOf bytes e
fault_of bytes version said (Line n) says cause = absurd cause
fault_of bytes version said (Kinds fault) says cause = record { version = version; said = said; says = says; refused = cause }
fault_of bytes version said Memory says cause = tt

-- An answer is a spelling that is valid, or a fault with its cause.
abbrev pub IsAnswer : List ℕ → Result (List TileKind) TessFault → Type 0
IsAnswer bytes r = MatchResult r (λ t. IsSpelling bytes t × IsValid t) (IsFaultOf bytes)

pub answer_of : (bytes : List ℕ) (version : Version) (said : List HandedKind) (r : Result (List TileKind) TessFault) → Says bytes version said → IfOk r (λ t. t ≡ kinds_of version said) → IfOk r IsValid → IfErr r (IsFaultFor version said) → IsAnswer bytes r
answer_of bytes version said (Ok t) says made valid cause = (record { version = version; said = said; says = says; value = made }, valid)
answer_of bytes version said (Err e) says made valid cause = fault_of bytes version said e says cause

pub err_answer : (bytes : List ℕ) (r : Result (List TileKind) TessFault) → IsErr r → IfErr r (IsFaultOf bytes) → IsAnswer bytes r
err_answer bytes (Ok t) is cause = absurd (cc)
err_answer bytes (Err e) is cause = cause

pub answer_spelling : (bytes : List ℕ) (r : Result (List TileKind) TessFault) → IsAnswer bytes r → IfOk r (λ t. IsSpelling bytes t)
answer_spelling bytes (Ok t) answer = answer.0
answer_spelling bytes (Err e) answer = tt

pub answer_cause : (bytes : List ℕ) (r : Result (List TileKind) TessFault) → IsAnswer bytes r → IfErr r (IsFaultOf bytes)
answer_cause bytes (Ok t) answer = tt
answer_cause bytes (Err e) answer = answer

pub answer_kinds : SpeltIsNotRefused → (bytes : List ℕ) (r : Result (List TileKind) TessFault) (kinds : List TileKind) → IsAnswer bytes r → IsSpelling bytes kinds → IsValid kinds → MatchResult r (λ t. t ≡ kinds) (λ e. e ≡ Memory)
answer_kinds apart bytes (Ok t) kinds answer spelling valid = spelling_same bytes t kinds answer.0 spelling
answer_kinds apart bytes (Err e) kinds answer spelling valid = only_memory apart bytes e kinds answer spelling valid

pub answer_line : (bytes : List ℕ) (r : Result (List TileKind) TessFault) (n : ℕ) → IsAnswer bytes r → IsFirstBadLine bytes n → MatchResult r (λ t. ⊥) (λ e. (e ≡ Line n) ⊎ (e ≡ Memory))
answer_line bytes (Ok t) n answer bad = no_bad_line bytes n answer.0.says.grammar bad
answer_line bytes (Err e) n answer bad = only_line bytes e n answer bad

pub answer_fault : SpeltIsNotRefused → OneRefusal → (bytes : List ℕ) (r : Result (List TileKind) TessFault) (fault : KindFault) → IsAnswer bytes r → IsRefused bytes fault → MatchResult r (λ t. ⊥) (λ e. (e ≡ Kinds fault) ⊎ (e ≡ Memory))
answer_fault apart one bytes (Ok t) fault answer refused = apart bytes t fault answer.0 answer.1 refused
answer_fault apart one bytes (Err e) fault answer refused = only_fault one bytes e fault answer refused
