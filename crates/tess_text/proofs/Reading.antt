-- Reading the lines of a file one by one.
use Rattle.std.proofs.Common.{◌≡◌, ℕ, suc, ◌+◌, ◌<◌, ◌≤◌, inl, inr, Bool, true, false, ◌||◌, List, [], ◌∷◌, ◌++◌, length, get_or, take, drop, map, refl, sym, ◌∙◌, ap, ap₂, cond, subst, arith, None, Some}
use Rattle.std.specs.Prelude.{Option, Result, IfOk, MatchBool, MatchOption}
use Rattle.std.specs.Option.{is_some}
use Rattle.std.specs.declared.result.Result.TheVariants.{Ok, Err}
use Rattle.handed_kinds.specs.Handed.{HandedKind}
use Rattle.std.specs.List.{filter_map, cons_option}
use Rattle.std.proofs.lemmas.List.{append-nil, length-drop, take_all}
use Rattle.std.proofs.Math.Seq.{take-suc, drop-cons}
use Rattle.std.proofs.lemmas.List.Elements.{filter_map-append}
use Rattle.std.proofs.lemmas.Bool.{cases_lt}
use Rattle.tess_text.specs.declared.entry.Entry.{Entry}
use Rattle.tess_text.specs.FileLines.{lines, content, words, word_lines, is_nonempty}
use Rattle.tess_text.specs.declared.version.Version.{Version}
use Rattle.tess_text.specs.declared.version.Version.TheVariants.{One, Two}
use Rattle.tess_text.specs.Grammar.{entry, entries, has_begun, head, version_of, IsAllowed, IsGoodEntry, IsGoodLine, IsGoodEnd, IsGoodAt, IsFirstBadAt, IsFirstBadLine}
use Rattle.tess_text.specs.Spelling.{Spells, Says}
use Rattle.tess_text.specs.Tables.{Table, Hold, begun_version, IsRead}

or_false : (b : Bool) → (b || false) ≡ b
or_false true = refl
or_false false = refl

or_assoc : (a b c : Bool) → (a || (b || c)) ≡ ((a || b) || c)
or_assoc true b c = refl
or_assoc false b c = refl

-- what lines say with one line more
pub begun-push : (before : List (List (List ℕ))) (line : List (List ℕ)) → has_begun (before ++ line ∷ []) ≡ (has_begun before || is_nonempty line)
begun-push [] line = or_false (is_nonempty line)
begun-push (x ∷ before) line = ap (λ (b : Bool). is_nonempty x || b) (begun-push before line) ∙ or_assoc (is_nonempty x) (has_begun before) (is_nonempty line)

entries_push : (before : List (List (List ℕ))) (line : List (List ℕ)) (o : Option Entry) → entry line ≡ o → entries (before ++ line ∷ []) ≡ entries before ++ cons_option o []
entries_push before line o is = filter_map-append entry before (line ∷ []) ∙ ap (λ (x : Option Entry). filter_map entry before ++ cons_option x []) is

pub entries_none : (before : List (List (List ℕ))) (line : List (List ℕ)) → entry line ≡ None → entries (before ++ line ∷ []) ≡ entries before
entries_none before line none = entries_push before line None none ∙ append-nil (entries before)

pub entries_some : (before : List (List (List ℕ))) (line : List (List ℕ)) (e : Entry) → entry line ≡ Some e → entries (before ++ line ∷ []) ≡ entries before ++ e ∷ []
entries_some before line e some = entries_push before line (Some e) some

-- a line with no words
good_blank : (before : List (List (List ℕ))) → IsGoodLine before []
good_blank before = record { first = λ none some. absurd (omega arith); later = λ begun some. absurd (omega arith) }

-- the version of the lines with one line more
pub version_blank : (before : List (List (List ℕ))) → version_of (before ++ [] ∷ []) ≡ version_of before
version_blank [] = refl
version_blank ([] ∷ before) = version_blank before
version_blank ((word ∷ fields) ∷ before) = refl

pub version_kept : (before : List (List (List ℕ))) (line : List (List ℕ)) → has_begun before ≡ true → version_of (before ++ line ∷ []) ≡ version_of before
version_kept [] line begun = absurd (cc begun)
version_kept ([] ∷ before) line begun = version_kept before line begun
version_kept ((word ∷ fields) ∷ before) line begun = refl

version_first : (before : List (List (List ℕ))) (line : List (List ℕ)) → has_begun before ≡ false → version_of (before ++ line ∷ []) ≡ version_of (line ∷ [])
version_first [] line none = refl
version_first ([] ∷ before) line none = version_first before line none
version_first ((word ∷ fields) ∷ before) line none = absurd (cc none)

pub version_head : (v : Version) → version_of (head v ∷ []) ≡ v
version_head One = refl
version_head Two = refl

head_begun : (v : Version) → is_nonempty (head v) ≡ true
head_begun One = refl
head_begun Two = refl

pub head_entry : (v : Version) → entry (head v) ≡ None
head_entry One = refl
head_entry Two = refl

-- whether the first line with words has come
some_begun : (begun : Bool) (v w : Version) → Some v ≡ cond begun (Some w) None → (begun ≡ true) × (w ≡ v)
some_begun true v w is = (refl, cc)
some_begun false v w is = absurd (cc is)

none_begun : (begun : Bool) (w : Version) → None ≡ cond begun (Some w) None → begun ≡ false
none_begun true w is = absurd (cc is)
none_begun false w is = refl

pub begun_of : (lines : List (List (List ℕ))) (v : Version) → Some v ≡ begun_version lines → (has_begun lines ≡ true) × (version_of lines ≡ v)
begun_of lines v is = some_begun (has_begun lines) v (version_of lines) is

pub not_begun : (lines : List (List (List ℕ))) → None ≡ begun_version lines → has_begun lines ≡ false
not_begun lines is = none_begun (has_begun lines) (version_of lines) is

told_version : (lines : List (List (List ℕ))) (v : Version) → has_begun lines ≡ true → version_of lines ≡ v → Some v ≡ begun_version lines
told_version lines v begun is = sym (ap₂ (λ (b : Bool) (w : Version). cond b (Some w) None) begun is)

blank_read : (version : Option Version) (tables : List Table) (before : List (List (List ℕ))) → IsRead version tables before → IsRead version tables (before ++ [] ∷ [])
blank_read version tables before read = record {
  begun = read.begun ∙ sym (ap₂ (λ (b : Bool) (w : Version). cond b (Some w) None) (begun-push before [] ∙ or_false (has_begun before)) (version_blank before));
  hold = subst (λ (es : List Entry). Hold tables es) (sym (entries_none before [] refl)) read.hold;
}

pub read_blank : (version : Option Version) (tables : List Table) (before : List (List (List ℕ))) (line : List (List ℕ)) → line ≡ [] → IsRead version tables before → IsGoodLine before line × IsRead version tables (before ++ line ∷ [])
read_blank version tables before line blank read =
    subst (λ (l : List (List ℕ)). IsGoodLine before l × IsRead version tables (before ++ l ∷ [])) (sym blank) (good_blank before, blank_read version tables before read)

-- the first line with words
pub read_first : (tables : List Table) (before : List (List (List ℕ))) (line : List (List ℕ)) (o : Option Version) → 0 < length line → MatchOption o ((v : Version) → line ≡ head v → ⊥) (λ v. line ≡ head v) → IsRead None tables before → MatchBool (is_some o) (IsGoodLine before line × IsRead o tables (before ++ line ∷ [])) (IsGoodLine before line → ⊥)
read_first tables before line (Some v) some is read =
    let none = not_begun before read.begun in (
      record { first = λ blank full. (v, is); later = λ begun full. absurd (cc (none, begun)) },
      record {
        begun =
            told_version (before ++ line ∷ []) v
            (begun-push before line ∙ ap (λ (b : Bool). b || is_nonempty line) none ∙ ap (λ (l : List (List ℕ)). is_nonempty l) is ∙ head_begun v)
            (version_first before line none ∙ ap (λ (l : List (List ℕ)). version_of (l ∷ [])) is ∙ version_head v);
        hold = subst (λ (es : List Entry). Hold tables es) (sym (entries_none before line (ap (λ (l : List (List ℕ)). entry l) is ∙ head_entry v))) read.hold;
      },
    )
read_first tables before line None some is read = λ good.
    let told = good.first (not_begun before read.begun) some in
    is told.0 told.1

-- a later line that says an entry
pub read_entry : (tables after : List Table) (before : List (List (List ℕ))) (line : List (List ℕ)) (e : Entry) (v : Version) (r : Bool) → 0 < length line → entry line ≡ Some e → MatchBool r (IsGoodEntry (entries before) e × IsAllowed v e × Hold after (entries before ++ e ∷ [])) (IsGoodEntry (entries before) e × IsAllowed v e → ⊥) → IsRead (Some v) tables before → MatchBool r (IsGoodLine before line × IsRead (Some v) after (before ++ line ∷ [])) (IsGoodLine before line → ⊥)
read_entry tables after before line e v true some says entered read =
    let begun = begun_of before v read.begun in (
      record {
        first = λ none full. absurd (cc (begun.0, none));
        later = λ yes full. (e, says, entered.0, subst (λ (w : Version). IsAllowed w e) (sym begun.1) entered.1);
      },
      record {
        begun =
            told_version (before ++ line ∷ []) v
            (begun-push before line ∙ ap (λ (b : Bool). b || is_nonempty line) begun.0)
            (version_kept before line begun.0 ∙ begun.1);
        hold = subst (λ (es : List Entry). Hold after es) (sym (entries_some before line e says)) entered.2;
      },
    )
read_entry tables after before line e v false some says entered read = λ good.
    let begun = begun_of before v read.begun in
    let g = good.later begun.0 some in
    let same : g.0 ≡ e = cc (g.1, says) in
    entered (subst (λ (x : Entry). IsGoodEntry (entries before) x) same g.2, subst (λ (x : Entry). IsAllowed v x) same (subst (λ (w : Version). IsAllowed w g.0) begun.1 g.3))

-- a later line that says none
pub no_entry : (tables : List Table) (before : List (List (List ℕ))) (line : List (List ℕ)) (v : Version) → 0 < length line → entry line ≡ None → IsRead (Some v) tables before → IsGoodLine before line → ⊥
no_entry tables before line v some none read good =
    let g = good.later (begun_of before v read.begun).0 some in
    absurd (cc (g.1, none))

-- the line at place n, and the lines behind it
pub record Next (lines : List (List (List ℕ))) (n : ℕ) (line : List (List ℕ)) (more : List (List (List ℕ))) : Type 0 where
  pub place : n < length lines
  pub here : get_or lines n [] ≡ line
  pub rest : drop (n + 1) lines ≡ more
  pub read : take (n + 1) lines ≡ take n lines ++ line ∷ []

pub next : (lines : List (List (List ℕ))) (n : ℕ) (line : List (List ℕ)) (more : List (List (List ℕ))) → drop n lines ≡ line ∷ more → Next lines n line more
next lines n line more is =
    let place : n < length lines = omega (arith, ap (λ (l : List (List (List ℕ))). length l) is, length-drop n lines) in
    let cut = drop-cons lines n [] place in
    let here : get_or lines n [] ≡ line = cc in
    let rest : drop (suc n) lines ≡ more = cc in
    let e : n + 1 ≡ suc n = omega arith in
    record {
      place = place;
      here = here;
      rest = rw e rest;
      read = rw e (take-suc lines n [] place ∙ ap (λ (l : List (List ℕ)). take n lines ++ l ∷ []) here);
    }

-- the line at place n, seen from what comes before it
pub good_here : (lines : List (List (List ℕ))) (n : ℕ) (line : List (List ℕ)) (more : List (List (List ℕ))) → Next lines n line more → IsGoodLine (take n lines) line → IsGoodAt lines n
good_here lines n line more at good = record {
  line = λ lt. subst (λ (l : List (List ℕ)). IsGoodLine (take n lines) l) (sym at.here) good;
  end = λ last. absurd (omega (arith, at.place));
}

-- and where it is the first bad one
pub bad_here : (lines : List (List (List ℕ))) (n : ℕ) (line : List (List ℕ)) (more : List (List (List ℕ))) → Next lines n line more → ((j : ℕ) → j < n → IsGoodAt lines j) → (IsGoodLine (take n lines) line → ⊥) → IsFirstBadAt lines n
bad_here lines n line more at earlier bad = record {
  place = omega (arith, at.place);
  bad = λ good. bad (subst (λ (l : List (List ℕ)). IsGoodLine (take n lines) l) at.here (good.line at.place));
  earlier = earlier;
}

-- one line more is good
pub all_good : (lines : List (List (List ℕ))) (n : ℕ) → ((j : ℕ) → j < n → IsGoodAt lines j) → IsGoodAt lines n → (j : ℕ) → j < n + 1 → IsGoodAt lines j
all_good lines n earlier here j lt = elim (cases_lt j n) [
  | inl before ↦ earlier j before
  | inr last ↦ let e : n ≡ j = omega arith in subst (λ (i : ℕ). IsGoodAt lines i) e here
]

-- behind the last line
pub record Ended (lines : List (List (List ℕ))) (n : ℕ) : Type 0 where
  pub place : n ≡ length lines
  pub read : take n lines ≡ lines

pub ended : (lines : List (List (List ℕ))) (n : ℕ) → n ≤ length lines → drop n lines ≡ [] → Ended lines n
ended lines n within none =
    let place : n ≡ length lines = omega (arith, ap (λ (l : List (List (List ℕ))). length l) none, length-drop n lines) in
    record { place = place; read = take_all n lines (omega arith) }

pub end_good : (lines : List (List (List ℕ))) (n : ℕ) → Ended lines n → ((j : ℕ) → j < n → IsGoodAt lines j) → IsGoodEnd lines → (j : ℕ) → j ≤ length lines → IsGoodAt lines j
end_good lines n at earlier good j le = elim (cases_lt j n) [
  | inl before ↦ earlier j before
  | inr last ↦ record { line = λ lt. absurd (omega (arith, at.place)); end = λ is. good }
]

pub end_bad : (lines : List (List (List ℕ))) (n : ℕ) → Ended lines n → ((j : ℕ) → j < n → IsGoodAt lines j) → (IsGoodEnd lines → ⊥) → IsFirstBadAt lines n
end_bad lines n at earlier bad = record {
  place = omega (arith, at.place);
  bad = λ good. bad (good.end at.place);
  earlier = earlier;
}

-- what was read of a file, n lines of it, before the rest
pub record Progress (bytes rest : List ℕ) (n : ℕ) (version : Option Version) (tables : List Table) : Type 0 where
  pub fits : n + length rest ≤ length bytes
  pub within : n ≤ length (word_lines bytes)
  pub left : drop n (word_lines bytes) ≡ word_lines rest
  pub read : IsRead version tables (take n (word_lines bytes))
  pub good : (j : ℕ) → j < n → IsGoodAt (word_lines bytes) j

nothing_read : IsRead None [] []
nothing_read = record {
  begun = refl;
  hold = record {
    shapes = refl;
    partners = λ k lt. absurd (omega arith);
    valences = λ k lt. absurd (omega arith);
    joined = λ d. refl;
    given = λ d. refl;
  };
}

pub start : (bytes : List ℕ) → Progress bytes bytes 0 None []
start bytes = record {
  fits = omega arith;
  within = omega arith;
  left = refl;
  read = nothing_read;
  good = λ j lt. absurd (omega arith);
}

module _ (bytes rest : List ℕ) (n : ℕ) (version : Option Version) (tables : List Table) (p : Progress bytes rest n version tables) where
  pub next_of : (line after : List ℕ) → lines rest ≡ line ∷ lines after → Next (word_lines bytes) n (words (content line)) (word_lines after)
  next_of line after is =
      next (word_lines bytes) n (words (content line)) (word_lines after)
      (p.left ∙ ap (λ (l : List (List ℕ)). map (λ x. words (content x)) l) is)

  pub goes_on : (line after : List ℕ) (version' : Option Version) (tables' : List Table) → lines rest ≡ line ∷ lines after → length after < length rest → IsGoodLine (take n (word_lines bytes)) (words (content line)) → IsRead version' tables' (take n (word_lines bytes) ++ words (content line) ∷ []) → Progress bytes after (n + 1) version' tables'
  goes_on line after version' tables' is shorter good read =
      let at = next_of line after is in
      record {
        fits = omega (arith, p.fits);
        within = omega (arith, at.place);
        left = at.rest;
        read = subst (λ (l : List (List (List ℕ))). IsRead version' tables' l) (sym at.read) read;
        good = all_good (word_lines bytes) n p.good (good_here (word_lines bytes) n (words (content line)) (word_lines after) at good);
      }

  pub stops : (line after : List ℕ) → lines rest ≡ line ∷ lines after → (IsGoodLine (take n (word_lines bytes)) (words (content line)) → ⊥) → IsFirstBadLine bytes (n + 1)
  stops line after is bad =
      (n, omega arith, bad_here (word_lines bytes) n (words (content line)) (word_lines after) (next_of line after is) p.good bad)

  pub ended_of : lines rest ≡ [] → Ended (word_lines bytes) n
  ended_of none = ended (word_lines bytes) n p.within (p.left ∙ ap (λ (l : List (List ℕ)). map (λ x. words (content x)) l) none)

  pub read_all : lines rest ≡ [] → IsRead version tables (word_lines bytes)
  read_all none = subst (λ (l : List (List (List ℕ))). IsRead version tables l) (ended_of none).read p.read

  pub end_says : (v : Version) (said : List HandedKind) → lines rest ≡ [] → IsGoodEnd (word_lines bytes) × (v ≡ version_of (word_lines bytes)) × Spells (entries (word_lines bytes)) said → Says bytes v said
  end_says v said none good = record { grammar = end_good (word_lines bytes) n (ended_of none) p.good good.0; head = good.1; spells = good.2 }

  pub end_stops : lines rest ≡ [] → (IsGoodEnd (word_lines bytes) → ⊥) → IsFirstBadLine bytes (n + 1)
  end_stops none bad = (n, omega arith, end_bad (word_lines bytes) n (ended_of none) p.good bad)

-- the same of the answer to entering an entry
pub read_entry_result : {E : Type 0} (tables after : List Table) (before : List (List (List ℕ))) (line : List (List ℕ)) (e : Entry) (v : Version) (version version' : Option Version) (r : Result Bool E) → 0 < length line → entry line ≡ Some e → version ≡ Some v → version' ≡ version → IsRead version tables before → IfOk r (λ good. MatchBool good (IsGoodEntry (entries before) e × IsAllowed v e × Hold after (entries before ++ e ∷ [])) (IsGoodEntry (entries before) e × IsAllowed v e → ⊥)) → IfOk r (λ good. MatchBool good (IsGoodLine before line × IsRead version' after (before ++ line ∷ [])) (IsGoodLine before line → ⊥))
read_entry_result tables after before line e v version version' (Err x) some says is kept read entered = tt
read_entry_result tables after before line e v version version' (Ok good) some says is kept read entered =
    subst (λ (o : Option Version). MatchBool good (IsGoodLine before line × IsRead o after (before ++ line ∷ [])) (IsGoodLine before line → ⊥)) (sym (kept ∙ is))
    (read_entry tables after before line e v good some says entered (subst (λ (o : Option Version). IsRead o tables before) is read))

-- the same of the first line with words, whose words are told apart
pub read_first_result : (version : Option Version) (tables : List Table) (before : List (List (List ℕ))) (line parts : List (List ℕ)) (o : Option Version) → line ≡ parts → 0 < length line → MatchOption o ((v : Version) → parts ≡ head v → ⊥) (λ v. parts ≡ head v) → version ≡ None → IsRead version tables before → MatchBool (is_some o) (IsGoodLine before line × IsRead o tables (before ++ line ∷ [])) (IsGoodLine before line → ⊥)
read_first_result version tables before line parts o is some test none read =
    read_first tables before line o some (subst (λ (l : List (List ℕ)). MatchOption o ((v : Version) → l ≡ head v → ⊥) (λ v. l ≡ head v)) (sym is) test) (subst (λ (x : Option Version). IsRead x tables before) none read)

-- the same of the answer to entering an entry that the version allows
pub allowed_result : {E : Type 0} (after : List Table) (es : List Entry) (e : Entry) (v : Version) (r : Result Bool E) → IsAllowed v e → IfOk r (λ good. MatchBool good (IsGoodEntry es e × Hold after (es ++ e ∷ [])) (IsGoodEntry es e → ⊥)) → IfOk r (λ good. MatchBool good (IsGoodEntry es e × IsAllowed v e × Hold after (es ++ e ∷ [])) (IsGoodEntry es e × IsAllowed v e → ⊥))
allowed_result after es e v (Err x) allowed entered = tt
allowed_result after es e v (Ok true) allowed entered = (entered.0, allowed, entered.1)
allowed_result after es e v (Ok false) allowed entered = λ both. entered both.0
