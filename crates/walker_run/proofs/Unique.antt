-- To a call at most one line is due, or it serves walkers over one automaton and in the tree of one kind, and never both.
use Rattle.std.proofs.Common.{◌≡◌, ℕ, ◌<◌, List, length, None, refl, sym, ◌∙◌, ap, subst, arith}
use Rattle.serde_json.specs.Data.{Data}
use Rattle.tile_model.specs.declared.Letter.{Letter}
use Rattle.tile_model.specs.Tessellations.{TileKind}
use Rattle.tile_model.specs.Relation.{Change, AreRelated}
use Rattle.log_model.specs.LogTexts.{IsFirstBadLine as IsFirstBadLogLine}
use Rattle.tile_model.specs.Walks.{type_of}
use Rattle.tile_model.specs.declared.fault.KindFault.{KindFault}
use Rattle.tree_model.specs.Automata.{TreeAutomaton}
use Rattle.tess_text.specs.Grammar.{IsFirstBadLine}
use Rattle.tess_text.specs.Spelling.{IsSpelling, IsRefused}
use Rattle.rules_file.specs.declared.fault.Part.{Part}
use Rattle.rules_file.specs.Spelling.{IsTextOf, IsRulesFile}
use Rattle.rules_file.specs.Faults.{IsFirstFault, FailsAt}
use Rattle.structure_check.specs.Broken.{IsFirstBroken}
use Rattle.tree_model.specs.Conditions.{IsAccepted}
use Rattle.merge_model.specs.Merging.{IsMerged}
use Rattle.merge_laws.proofs.Unique.{one_merging}
use Rattle.call_words.specs.Tasks.{Task, TellType, CheckRules, RunSession, LearnRules, MergeRules, WriteLog, VerifyLog, RulesFrom, FromFile, FromTeacher, Ask}
use Rattle.walker_run.specs.declared.line.Line.{Line}
use Rattle.walker_run.specs.declared.line.Line.TheVariants.{TypeTold, Accepted, TessLine, TessKinds, RulesShape, LogLine, LogChange}
use Rattle.walker_run.specs.Runs.{Call}
use Rattle.walker_run.specs.Held.{Outcome, Loaded, Refused, Lesson, Holds, HoldsTooMany, IsTess, tess_too_long, tess_line, tess_kinds, tess_loaded, IsRules, rules_too_long, rules_syntax, rules_shape, rules_broken, rules_loaded, IsLog, log_too_long, log_line, log_loaded, broken_at, IsMade, made_spherical, made_rules, made_taught, RulesOf, tess_limit, rules_limit, log_limit}
use Rattle.walker_run.specs.Due.{Contents, TypeRow, type_no_tess, type_no_kind, type_told, CheckRow, check_no_tess, check_no_rules, check_accepted, SessionRow, session_no_tess, session_no_kind, session_no_rules, Merges, MergeRow, merge_no_tess, merge_no_rules, merge_accepted, KindRow, kind_no_tess, kind_not_there, kind_there, PassFar, LogRow, log_no_rules, log_too_deep, log_apart, IsVerdict, log_leads, log_refused, log_ends, VerifyRow, verify_no_log, verify_log, MakesFor, Row, IsDue, no_form, by_task}
use Rattle.walker_run.specs.Below.{LawsBelow}
use Rattle.walker_run.specs.Laws.{OneLineIsDue, OneSessionIsServed, NeverBoth, NeverALogToo}

-- a file holds one list of bytes, within its limit or not
module _ (contents : Contents) (file : List ℕ) (limit : ℕ) where
  one_bytes : (bytes other : List ℕ) → Holds contents file limit bytes → Holds contents file limit other → other ≡ bytes
  one_bytes bytes other one two = cc (one.content, two.content)

  not_both : (bytes : List ℕ) → HoldsTooMany contents file limit → Holds contents file limit bytes → ⊥
  not_both bytes long holds =
      let same : long.bytes ≡ bytes = cc (long.content, holds.content) in
      omega (arith, ap length same, long.longer, holds.within)

-- a tessellation file comes to one outcome
module _ (below : LawsBelow) (contents : Contents) (file : List ℕ) where
  same_line : (bytes other : List ℕ) (n m : ℕ) → Holds contents file tess_limit bytes → Holds contents file tess_limit other → IsFirstBadLine bytes n → IsFirstBadLine other m → n ≡ m
  same_line bytes other n m one two bad worse =
      below.one_bad_line bytes n m bad (subst (λ (b : List ℕ). IsFirstBadLine b m) (one_bytes contents file tess_limit bytes other one two) worse)

  line_or_kinds : (bytes other : List ℕ) (n : ℕ) (fault : KindFault) → Holds contents file tess_limit bytes → Holds contents file tess_limit other → IsFirstBadLine bytes n → IsRefused other fault → ⊥
  line_or_kinds bytes other n fault one two bad refused =
      let here : IsRefused bytes fault = subst (λ (b : List ℕ). IsRefused b fault) (one_bytes contents file tess_limit bytes other one two) refused in
      below.no_bad_line bytes n here.says.grammar bad

  line_or_loaded : (bytes other : List ℕ) (n : ℕ) (kinds : List TileKind) → Holds contents file tess_limit bytes → Holds contents file tess_limit other → IsFirstBadLine bytes n → IsSpelling other kinds → ⊥
  line_or_loaded bytes other n kinds one two bad spelling =
      let here : IsSpelling bytes kinds = subst (λ (b : List ℕ). IsSpelling b kinds) (one_bytes contents file tess_limit bytes other one two) spelling in
      below.no_bad_line bytes n here.says.grammar bad

  same_fault : (bytes other : List ℕ) (fault worse : KindFault) → Holds contents file tess_limit bytes → Holds contents file tess_limit other → IsRefused bytes fault → IsRefused other worse → fault ≡ worse
  same_fault bytes other fault worse one two refused also =
      below.one_refusal bytes fault worse refused (subst (λ (b : List ℕ). IsRefused b worse) (one_bytes contents file tess_limit bytes other one two) also)

  pub one_tess : {o : Outcome (List TileKind)} → IsTess contents file o → {p : Outcome (List TileKind)} → IsTess contents file p → o ≡ p
  one_tess (tess_too_long x) (tess_too_long y) = refl
  one_tess (tess_too_long x) (tess_line bytes n holds bad) = absurd (not_both contents file tess_limit bytes x holds)
  one_tess (tess_too_long x) (tess_kinds bytes fault holds bad) = absurd (not_both contents file tess_limit bytes x holds)
  one_tess (tess_too_long x) (tess_loaded bytes kinds holds spelling valid) = absurd (not_both contents file tess_limit bytes x holds)
  one_tess (tess_line bytes n holds bad) (tess_too_long y) = absurd (not_both contents file tess_limit bytes y holds)
  one_tess (tess_line bytes n holds bad) (tess_line other m holds' worse) = ap (λ (l : ℕ). Refused (TessLine l)) (same_line bytes other n m holds holds' bad worse)
  one_tess (tess_line bytes n holds bad) (tess_kinds other fault holds' refused) = absurd (line_or_kinds bytes other n fault holds holds' bad refused)
  one_tess (tess_line bytes n holds bad) (tess_loaded other kinds holds' spelling valid) = absurd (line_or_loaded bytes other n kinds holds holds' bad spelling)
  one_tess (tess_kinds bytes fault holds refused) (tess_too_long y) = absurd (not_both contents file tess_limit bytes y holds)
  one_tess (tess_kinds bytes fault holds refused) (tess_line other n holds' bad) = absurd (line_or_kinds other bytes n fault holds' holds bad refused)
  one_tess (tess_kinds bytes fault holds refused) (tess_kinds other worse holds' also) = ap (λ (f : KindFault). Refused (TessKinds f)) (same_fault bytes other fault worse holds holds' refused also)
  one_tess (tess_kinds bytes fault holds refused) (tess_loaded other kinds holds' spelling valid) =
      absurd (below.not_refused bytes kinds fault (subst (λ (b : List ℕ). IsSpelling b kinds) (one_bytes contents file tess_limit bytes other holds holds') spelling) valid refused)
  one_tess (tess_loaded bytes kinds holds spelling valid) (tess_too_long y) = absurd (not_both contents file tess_limit bytes y holds)
  one_tess (tess_loaded bytes kinds holds spelling valid) (tess_line other n holds' bad) = absurd (line_or_loaded other bytes n kinds holds' holds bad spelling)
  one_tess (tess_loaded bytes kinds holds spelling valid) (tess_kinds other fault holds' refused) =
      absurd (below.not_refused bytes kinds fault spelling valid (subst (λ (b : List ℕ). IsRefused b fault) (one_bytes contents file tess_limit bytes other holds holds') refused))
  one_tess (tess_loaded bytes kinds holds spelling valid) (tess_loaded other kinds' holds' spelling' valid') =
      ap (λ (ks : List TileKind). Loaded ks) (below.one_spelling bytes kinds kinds' spelling (subst (λ (b : List ℕ). IsSpelling b kinds') (one_bytes contents file tess_limit bytes other holds holds') spelling'))

  pub one_loaded : {ks ls : List TileKind} → IsTess contents file (Loaded ks) → IsTess contents file (Loaded ls) → ks ≡ ls
  one_loaded one two = let same = one_tess one two in cc same

  pub not_refused_too : {ks : List TileKind} {line : Line} → IsTess contents file (Loaded ks) → IsTess contents file (Refused line) → ⊥
  not_refused_too one two = let same = one_tess one two in cc same

  pub one_refusal : {line other : Line} → IsTess contents file (Refused line) → IsTess contents file (Refused other) → line ≡ other
  one_refusal one two = let same = one_tess one two in cc same

-- a rules file comes to one outcome
module _ (below : LawsBelow) (contents : Contents) (kinds : List TileKind) (file : List ℕ) where
  one_value : (bytes other : List ℕ) (d e : Data) → Holds contents file rules_limit bytes → Holds contents file rules_limit other → IsTextOf bytes d → IsTextOf other e → e ≡ d
  one_value bytes other d e one two text also =
      let here : IsTextOf bytes e = subst (λ (b : List ℕ). IsTextOf b e) (one_bytes contents file rules_limit bytes other one two) also in
      cc (text.value, here.value)

  no_value : (bytes other : List ℕ) (e : Data) → Holds contents file rules_limit bytes → Holds contents file rules_limit other → ((d : Data) → ¬ IsTextOf bytes d) → IsTextOf other e → ⊥
  no_value bytes other e one two none text = none e (subst (λ (b : List ℕ). IsTextOf b e) (one_bytes contents file rules_limit bytes other one two) text)

  same_shape : (bytes other : List ℕ) (d e : Data) (part worse : Part) (i j : ℕ) → Holds contents file rules_limit bytes → Holds contents file rules_limit other → IsTextOf bytes d → IsTextOf other e → IsFirstFault d part i → IsFirstFault e worse j → RulesShape part i ≡ RulesShape worse j
  same_shape bytes other d e part worse i j one two text also fault fault' =
      let same = below.one_fault d part worse i j fault (subst (λ (x : Data). IsFirstFault x worse j) (one_value bytes other d e one two text also) fault') in
      λ l. RulesShape (same.0 l) (same.1 l)

  shape_or_file : (bytes other : List ℕ) (d : Data) (part : Part) (i : ℕ) (a : TreeAutomaton) → Holds contents file rules_limit bytes → Holds contents file rules_limit other → IsTextOf bytes d → IsFirstFault d part i → IsRulesFile other a → ⊥
  shape_or_file bytes other d part i a one two text fault (e, also, spelt) =
      below.not_faulty e a part i spelt (subst (λ (x : Data). FailsAt part i x) (sym (one_value bytes other d e one two text also)) fault.fails)

  same_file : (bytes other : List ℕ) (a b : TreeAutomaton) → Holds contents file rules_limit bytes → Holds contents file rules_limit other → IsRulesFile bytes a → IsRulesFile other b → b ≡ a
  same_file bytes other a b one two spelt also =
      below.one_automaton bytes b a (subst (λ (l : List ℕ). IsRulesFile l b) (one_bytes contents file rules_limit bytes other one two) also) spelt

  same_broken : (a b : TreeAutomaton) (c f s c' f' s' : ℕ) → b ≡ a → IsFirstBroken kinds a c f s → IsFirstBroken kinds b c' f' s' → broken_at c f s ≡ broken_at c' f' s'
  same_broken a b c f s c' f' s' same one two =
      let places = below.one_broken kinds a c f s c' f' s' one (subst (λ (x : TreeAutomaton). IsFirstBroken kinds x c' f' s') same two) in
      λ i. broken_at (places.0 i) (places.1 i) (places.2 i)

  pub one_rules : {o : Outcome TreeAutomaton} → IsRules contents kinds file o → {p : Outcome TreeAutomaton} → IsRules contents kinds file p → o ≡ p
  one_rules (rules_too_long x) (rules_too_long y) = refl
  one_rules (rules_too_long x) (rules_syntax bytes holds none) = absurd (not_both contents file rules_limit bytes x holds)
  one_rules (rules_too_long x) (rules_shape bytes d part i holds text fault) = absurd (not_both contents file rules_limit bytes x holds)
  one_rules (rules_too_long x) (rules_broken bytes a c f s holds spelt broken) = absurd (not_both contents file rules_limit bytes x holds)
  one_rules (rules_too_long x) (rules_loaded bytes a holds spelt accepted) = absurd (not_both contents file rules_limit bytes x holds)
  one_rules (rules_syntax bytes holds none) (rules_too_long y) = absurd (not_both contents file rules_limit bytes y holds)
  one_rules (rules_syntax bytes holds none) (rules_syntax other holds' none') = refl
  one_rules (rules_syntax bytes holds none) (rules_shape other d part i holds' text fault) = absurd (no_value bytes other d holds holds' none text)
  one_rules (rules_syntax bytes holds none) (rules_broken other a c f s holds' spelt broken) = absurd (no_value bytes other spelt.0 holds holds' none spelt.1)
  one_rules (rules_syntax bytes holds none) (rules_loaded other a holds' spelt accepted) = absurd (no_value bytes other spelt.0 holds holds' none spelt.1)
  one_rules (rules_shape bytes d part i holds text fault) (rules_too_long y) = absurd (not_both contents file rules_limit bytes y holds)
  one_rules (rules_shape bytes d part i holds text fault) (rules_syntax other holds' none) = absurd (no_value other bytes d holds' holds none text)
  one_rules (rules_shape bytes d part i holds text fault) (rules_shape other e worse j holds' also fault') = ap (λ (l : Line). Refused l) (same_shape bytes other d e part worse i j holds holds' text also fault fault')
  one_rules (rules_shape bytes d part i holds text fault) (rules_broken other a c f s holds' spelt broken) = absurd (shape_or_file bytes other d part i a holds holds' text fault spelt)
  one_rules (rules_shape bytes d part i holds text fault) (rules_loaded other a holds' spelt accepted) = absurd (shape_or_file bytes other d part i a holds holds' text fault spelt)
  one_rules (rules_broken bytes a c f s holds spelt broken) (rules_too_long y) = absurd (not_both contents file rules_limit bytes y holds)
  one_rules (rules_broken bytes a c f s holds spelt broken) (rules_syntax other holds' none) = absurd (no_value other bytes spelt.0 holds' holds none spelt.1)
  one_rules (rules_broken bytes a c f s holds spelt broken) (rules_shape other d part i holds' text fault) = absurd (shape_or_file other bytes d part i a holds' holds text fault spelt)
  one_rules (rules_broken bytes a c f s holds spelt broken) (rules_broken other b c' f' s' holds' also worse) = ap (λ (l : Line). Refused l) (same_broken a b c f s c' f' s' (same_file bytes other a b holds holds' spelt also) broken worse)
  one_rules (rules_broken bytes a c f s holds spelt broken) (rules_loaded other b holds' also accepted) =
      absurd (below.not_broken kinds b c f s (subst (λ (x : TreeAutomaton). IsFirstBroken kinds x c f s) (sym (same_file bytes other a b holds holds' spelt also)) broken) accepted)
  one_rules (rules_loaded bytes a holds spelt accepted) (rules_too_long y) = absurd (not_both contents file rules_limit bytes y holds)
  one_rules (rules_loaded bytes a holds spelt accepted) (rules_syntax other holds' none) = absurd (no_value other bytes spelt.0 holds' holds none spelt.1)
  one_rules (rules_loaded bytes a holds spelt accepted) (rules_shape other d part i holds' text fault) = absurd (shape_or_file other bytes d part i a holds' holds text fault spelt)
  one_rules (rules_loaded bytes a holds spelt accepted) (rules_broken other b c f s holds' also broken) =
      absurd (below.not_broken kinds a c f s (subst (λ (x : TreeAutomaton). IsFirstBroken kinds x c f s) (same_file bytes other a b holds holds' spelt also) broken) accepted)
  one_rules (rules_loaded bytes a holds spelt accepted) (rules_loaded other b holds' also accepted') = ap (λ (x : TreeAutomaton). Loaded x) (sym (same_file bytes other a b holds holds' spelt also))

-- rules that are loaded meet the twelve conditions
module _ (contents : Contents) (kinds : List TileKind) (file : List ℕ) where
  abbrev AreGood : Outcome TreeAutomaton → Type 0
  AreGood (Loaded a) = IsAccepted kinds a
  AreGood (Refused line) = Unit {0}

  good : {o : Outcome TreeAutomaton} → IsRules contents kinds file o → AreGood o
  good (rules_too_long long) = tt
  good (rules_syntax bytes holds none) = tt
  good (rules_shape bytes d part i holds text fault) = tt
  good (rules_broken bytes a c f s holds spelt broken) = tt
  good (rules_loaded bytes a holds spelt accepted) = accepted

  pub accepted_rules : {a : TreeAutomaton} → IsRules contents kinds file (Loaded a) → IsAccepted kinds a
  accepted_rules is = good is

-- rules that are made come to one outcome
module _ (lesson : Lesson) (kinds : List TileKind) (cells : ℕ) where
  pub one_made : {o : Outcome TreeAutomaton} → IsMade lesson kinds cells o → {p : Outcome TreeAutomaton} → IsMade lesson kinds cells p → o ≡ p
  one_made (made_spherical regular low) (made_spherical regular' low') = refl
  one_made (made_spherical regular low) (made_rules regular' infinite) = absurd (omega (arith, low, infinite))
  one_made (made_spherical regular low) (made_taught p irregular told may) = absurd (irregular regular)
  one_made (made_rules regular infinite) (made_spherical regular' low) = absurd (omega (arith, low, infinite))
  one_made (made_rules regular infinite) (made_rules regular' infinite') = refl
  one_made (made_rules regular infinite) (made_taught p irregular told may) = absurd (irregular regular)
  one_made (made_taught o irregular told may) (made_spherical regular low) = absurd (irregular regular)
  one_made (made_taught o irregular told may) (made_rules regular infinite) = absurd (irregular regular)
  one_made (made_taught o irregular told may) (made_taught p irregular' told' may') = cc (told, told')

-- rules of either origin
one_rules_of : LawsBelow → (contents : Contents) (lesson : Lesson) (kinds : List TileKind) (rules : RulesFrom) (o p : Outcome TreeAutomaton) → RulesOf contents lesson kinds rules o → RulesOf contents lesson kinds rules p → o ≡ p
one_rules_of below contents lesson kinds (FromFile file) o p one two = one_rules below contents kinds file one two
one_rules_of below contents lesson kinds (FromTeacher cells) o p one two = one_made lesson kinds cells one two

-- the same of other names of the kinds
same_rules_of : LawsBelow → (contents : Contents) (lesson : Lesson) (kinds kinds' : List TileKind) (rules : RulesFrom) (o p : Outcome TreeAutomaton) → kinds ≡ kinds' → RulesOf contents lesson kinds rules o → RulesOf contents lesson kinds' rules p → o ≡ p
same_rules_of below contents lesson kinds kinds' rules o p same one two =
    one_rules_of below contents lesson kinds rules o p one (subst (λ (ks : List TileKind). RulesOf contents lesson ks rules p) (sym same) two)

-- what is left of rules is one automaton
module _ (below : LawsBelow) (contents : Contents) (tess rules : List ℕ) where
  same_merge : (kinds : List TileKind) (a b : TreeAutomaton) → Merges contents tess rules kinds a → Merges contents tess rules kinds b → b ≡ a
  same_merge kinds a b one two =
      let outcome = one_rules below contents kinds rules two.read one.read in
      let source : two.source ≡ one.source = cc outcome in
      let merged : IsMerged kinds one.source two.classes b = subst (λ (x : TreeAutomaton). IsMerged kinds x two.classes b) source two.merged in
      (one_merging kinds one.source (accepted_rules contents kinds rules one.read) one.classes a one.merged two.classes b merged).1

  pub one_merge : (kinds kinds' : List TileKind) (a b : TreeAutomaton) → Merges contents tess rules kinds a → Merges contents tess rules kinds' b → b ≡ a
  one_merge kinds kinds' a b one two =
      same_merge kinds a b one (subst (λ (ks : List TileKind). Merges contents tess rules ks b) (one_loaded below contents tess two.loaded one.loaded) two)

  -- nothing is left of rules that are refused
  pub unmerged : (kinds kinds' : List TileKind) (a : TreeAutomaton) (line : Line) → Merges contents tess rules kinds a → IsTess contents tess (Loaded kinds') → IsRules contents kinds' rules (Refused line) → ⊥
  unmerged kinds kinds' a line merges is refused =
      let same = same_rules_of below contents None kinds kinds' (FromFile rules) (Loaded merges.source) (Refused line) (one_loaded below contents tess merges.loaded is) merges.read refused in
      cc same

-- rules that are made for a task are no others
pub one_makes : LawsBelow → (contents : Contents) (lesson : Lesson) (task : Task) (kinds kinds' : List TileKind) (a b : TreeAutomaton) → MakesFor contents lesson task kinds a → MakesFor contents lesson task kinds' b → b ≡ a
one_makes below contents lesson (TellType tess k walk) kinds kinds' a b one two = absurd one
one_makes below contents lesson (CheckRules tess rules) kinds kinds' a b one two = absurd one
one_makes below contents lesson (RunSession tess k rules) kinds kinds' a b one two = absurd one
one_makes below contents lesson (LearnRules tess cells out) kinds kinds' a b one two =
    let outcome = same_rules_of below contents lesson kinds kinds' (FromTeacher cells) (Loaded a) (Loaded b) (one_loaded below contents tess one.loaded two.loaded) one.made two.made in
    let same : a ≡ b = cc outcome in
    sym same
one_makes below contents lesson (MergeRules tess rules out) kinds kinds' a b one two = one_merge below contents tess rules kinds kinds' a b one two
one_makes below contents lesson (WriteLog tess rules k u w) kinds kinds' a b one two = absurd one
one_makes below contents lesson (VerifyLog tess k u w log) kinds kinds' a b one two = absurd one

-- the rows of a form say one line
module _ (below : LawsBelow) (contents : Contents) (tess : List ℕ) (k : ℕ) (walk : List Letter) where
  one_type : {line : Line} → TypeRow contents tess k walk line → {other : Line} → TypeRow contents tess k walk other → line ≡ other
  one_type (type_no_tess line is) (type_no_tess other is') = one_refusal below contents tess is is'
  one_type (type_no_tess line is) (type_no_kind kinds is' few) = absurd (not_refused_too below contents tess is' is)
  one_type (type_no_tess line is) (type_told kinds is' lt) = absurd (not_refused_too below contents tess is' is)
  one_type (type_no_kind kinds is few) (type_no_tess other is') = absurd (not_refused_too below contents tess is is')
  one_type (type_no_kind kinds is few) (type_no_kind kinds' is' few') = refl
  one_type (type_no_kind kinds is few) (type_told kinds' is' lt) = let same = one_loaded below contents tess is is' in absurd (omega (arith, ap length same, few, lt))
  one_type (type_told kinds is lt) (type_no_tess other is') = absurd (not_refused_too below contents tess is is')
  one_type (type_told kinds is lt) (type_no_kind kinds' is' few) = let same = one_loaded below contents tess is is' in absurd (omega (arith, ap length same, few, lt))
  one_type (type_told kinds is lt) (type_told kinds' is' lt') = let same = one_loaded below contents tess is is' in λ i. TypeTold (type_of (same i) (k, 0) walk)

module _ (below : LawsBelow) (contents : Contents) (lesson : Lesson) (tess : List ℕ) (rules : RulesFrom) where
  one_check : {line : Line} → CheckRow contents lesson tess rules line → {other : Line} → CheckRow contents lesson tess rules other → line ≡ other
  one_check (check_no_tess line is) (check_no_tess other is') = one_refusal below contents tess is is'
  one_check (check_no_tess line is) (check_no_rules kinds other is' refused) = absurd (not_refused_too below contents tess is' is)
  one_check (check_no_tess line is) (check_accepted kinds a is' loaded) = absurd (not_refused_too below contents tess is' is)
  one_check (check_no_rules kinds line is refused) (check_no_tess other is') = absurd (not_refused_too below contents tess is is')
  one_check (check_no_rules kinds line is refused) (check_no_rules kinds' other is' refused') =
      let same = same_rules_of below contents lesson kinds kinds' rules (Refused line) (Refused other) (one_loaded below contents tess is is') refused refused' in cc same
  one_check (check_no_rules kinds line is refused) (check_accepted kinds' a is' loaded) =
      let same = same_rules_of below contents lesson kinds kinds' rules (Refused line) (Loaded a) (one_loaded below contents tess is is') refused loaded in absurd (cc same)
  one_check (check_accepted kinds a is loaded) (check_no_tess other is') = absurd (not_refused_too below contents tess is is')
  one_check (check_accepted kinds a is loaded) (check_no_rules kinds' other is' refused) =
      let same = same_rules_of below contents lesson kinds kinds' rules (Loaded a) (Refused other) (one_loaded below contents tess is is') loaded refused in absurd (cc same)
  one_check (check_accepted kinds a is loaded) (check_accepted kinds' b is' loaded') =
      let same = same_rules_of below contents lesson kinds kinds' rules (Loaded a) (Loaded b) (one_loaded below contents tess is is') loaded loaded' in
      let one : a ≡ b = cc same in
      λ i. Accepted (length (one i).states) (length (one i).corners)

module _ (below : LawsBelow) (contents : Contents) (lesson : Lesson) (tess : List ℕ) (k : ℕ) (rules : RulesFrom) where
  one_refused : {line : Line} → SessionRow contents lesson tess k rules line → {other : Line} → SessionRow contents lesson tess k rules other → line ≡ other
  one_refused (session_no_tess line is) (session_no_tess other is') = one_refusal below contents tess is is'
  one_refused (session_no_tess line is) (session_no_kind kinds is' few) = absurd (not_refused_too below contents tess is' is)
  one_refused (session_no_tess line is) (session_no_rules kinds other is' lt refused) = absurd (not_refused_too below contents tess is' is)
  one_refused (session_no_kind kinds is few) (session_no_tess other is') = absurd (not_refused_too below contents tess is is')
  one_refused (session_no_kind kinds is few) (session_no_kind kinds' is' few') = refl
  one_refused (session_no_kind kinds is few) (session_no_rules kinds' other is' lt refused) = let same = one_loaded below contents tess is is' in absurd (omega (arith, ap length same, few, lt))
  one_refused (session_no_rules kinds line is lt refused) (session_no_tess other is') = absurd (not_refused_too below contents tess is is')
  one_refused (session_no_rules kinds line is lt refused) (session_no_kind kinds' is' few) = let same = one_loaded below contents tess is is' in absurd (omega (arith, ap length same, few, lt))
  one_refused (session_no_rules kinds line is lt refused) (session_no_rules kinds' other is' lt' refused') =
      let same = same_rules_of below contents lesson kinds kinds' rules (Refused line) (Refused other) (one_loaded below contents tess is is') refused refused' in cc same

  -- and none where rules are there and K is a kind
  unrefused : (kinds : List TileKind) (a : TreeAutomaton) → IsTess contents tess (Loaded kinds) → k < length kinds → RulesOf contents lesson kinds rules (Loaded a) → {line : Line} → SessionRow contents lesson tess k rules line → ⊥
  unrefused kinds a is lt loaded (session_no_tess line is') = not_refused_too below contents tess is is'
  unrefused kinds a is lt loaded (session_no_kind kinds' is' few) = let same = one_loaded below contents tess is is' in omega (arith, ap length same, few, lt)
  unrefused kinds a is lt loaded (session_no_rules kinds' line is' lt' refused) =
      let same = same_rules_of below contents lesson kinds kinds' rules (Loaded a) (Refused line) (one_loaded below contents tess is is') loaded refused in cc same

module _ (below : LawsBelow) (contents : Contents) (tess rules : List ℕ) where
  one_left : {line : Line} → MergeRow contents tess rules line → {other : Line} → MergeRow contents tess rules other → line ≡ other
  one_left (merge_no_tess line is) (merge_no_tess other is') = one_refusal below contents tess is is'
  one_left (merge_no_tess line is) (merge_no_rules kinds other is' refused) = absurd (not_refused_too below contents tess is' is)
  one_left (merge_no_tess line is) (merge_accepted kinds a merges) = absurd (not_refused_too below contents tess merges.loaded is)
  one_left (merge_no_rules kinds line is refused) (merge_no_tess other is') = absurd (not_refused_too below contents tess is is')
  one_left (merge_no_rules kinds line is refused) (merge_no_rules kinds' other is' refused') =
      let same = same_rules_of below contents None kinds kinds' (FromFile rules) (Refused line) (Refused other) (one_loaded below contents tess is is') refused refused' in cc same
  one_left (merge_no_rules kinds line is refused) (merge_accepted kinds' a merges) =
      let same = same_rules_of below contents None kinds kinds' (FromFile rules) (Refused line) (Loaded merges.source) (one_loaded below contents tess is merges.loaded) refused merges.read in absurd (cc same)
  one_left (merge_accepted kinds a merges) (merge_no_tess other is') = absurd (not_refused_too below contents tess merges.loaded is')
  one_left (merge_accepted kinds a merges) (merge_no_rules kinds' other is' refused) =
      let same = same_rules_of below contents None kinds kinds' (FromFile rules) (Loaded merges.source) (Refused other) (one_loaded below contents tess merges.loaded is') merges.read refused in absurd (cc same)
  one_left (merge_accepted kinds a merges) (merge_accepted kinds' b merges') =
      let same : b ≡ a = one_merge below contents tess rules kinds kinds' a b merges merges' in
      λ i. Accepted (length (sym same i).states) (length (sym same i).corners)

-- a log file comes to one outcome
module _ (below : LawsBelow) (contents : Contents) (file : List ℕ) where
  same_log_line : (bytes other : List ℕ) (n m : ℕ) → Holds contents file log_limit bytes → Holds contents file log_limit other → IsFirstBadLogLine bytes n → IsFirstBadLogLine other m → n ≡ m
  same_log_line bytes other n m one two bad worse =
      below.one_log_line bytes n m bad (subst (λ (b : List ℕ). IsFirstBadLogLine b m) (one_bytes contents file log_limit bytes other one two) worse)

  one_log_file : {o : Outcome (List Change)} → IsLog contents file o → {p : Outcome (List Change)} → IsLog contents file p → o ≡ p
  one_log_file (log_too_long x) (log_too_long y) = refl
  one_log_file (log_too_long x) (log_line bytes n holds bad) = absurd (not_both contents file log_limit bytes x holds)
  one_log_file (log_too_long x) (log_loaded bytes log holds texts is) = absurd (not_both contents file log_limit bytes x holds)
  one_log_file (log_line bytes n holds bad) (log_too_long y) = absurd (not_both contents file log_limit bytes y holds)
  one_log_file (log_line bytes n holds bad) (log_line other m holds' worse) = ap (λ (l : ℕ). Refused (LogLine l)) (same_log_line bytes other n m holds holds' bad worse)
  one_log_file (log_line bytes n holds bad) (log_loaded other log holds' texts is) = absurd (below.no_log bytes n bad log texts (is ∙ one_bytes contents file log_limit bytes other holds holds'))
  one_log_file (log_loaded bytes log holds texts is) (log_too_long y) = absurd (not_both contents file log_limit bytes y holds)
  one_log_file (log_loaded bytes log holds texts is) (log_line other n holds' bad) = absurd (below.no_log other n bad log texts (is ∙ one_bytes contents file log_limit other bytes holds' holds))
  one_log_file (log_loaded bytes log holds texts is) (log_loaded other more holds' texts' is') =
      ap (λ (l : List Change). Loaded l) (below.one_log log more texts texts' (is ∙ sym (is' ∙ one_bytes contents file log_limit bytes other holds holds')))

-- the rows of a form that names a kind say one line, where those behind the kind do
module _ (below : LawsBelow) (contents : Contents) (tess : List ℕ) (k : ℕ) (Next : List TileKind → Line → Type 0) where
  one_of_kind : ((kinds : List TileKind) (line other : Line) → Next kinds line → Next kinds other → line ≡ other)
      → {line : Line} → KindRow contents tess k Next line → {other : Line} → KindRow contents tess k Next other → line ≡ other
  one_of_kind one (kind_no_tess line is) (kind_no_tess other is') = one_refusal below contents tess is is'
  one_of_kind one (kind_no_tess line is) (kind_not_there kinds is' few) = absurd (not_refused_too below contents tess is' is)
  one_of_kind one (kind_no_tess line is) (kind_there kinds other is' lt next) = absurd (not_refused_too below contents tess is' is)
  one_of_kind one (kind_not_there kinds is few) (kind_no_tess other is') = absurd (not_refused_too below contents tess is is')
  one_of_kind one (kind_not_there kinds is few) (kind_not_there kinds' is' few') = refl
  one_of_kind one (kind_not_there kinds is few) (kind_there kinds' other is' lt next) = let same = one_loaded below contents tess is is' in absurd (omega (arith, ap length same, few, lt))
  one_of_kind one (kind_there kinds line is lt next) (kind_no_tess other is') = absurd (not_refused_too below contents tess is is')
  one_of_kind one (kind_there kinds line is lt next) (kind_not_there kinds' is' few) = let same = one_loaded below contents tess is is' in absurd (omega (arith, ap length same, few, lt))
  one_of_kind one (kind_there kinds line is lt next) (kind_there kinds' other is' lt' next') =
      one kinds line other next (subst (λ (ks : List TileKind). Next ks other) (sym (one_loaded below contents tess is is')) next')

  -- where K is a kind, what is due stands behind it
  pub behind_kind : (kinds : List TileKind) → IsTess contents tess (Loaded kinds) → k < length kinds → {line : Line} → KindRow contents tess k Next line → Next kinds line
  behind_kind kinds is lt (kind_no_tess line is') = absurd (not_refused_too below contents tess is is')
  behind_kind kinds is lt (kind_not_there kinds' is' few) = let same = one_loaded below contents tess is is' in absurd (omega (arith, ap length same, few, lt))
  behind_kind kinds is lt (kind_there kinds' line is' lt' next) = subst (λ (ks : List TileKind). Next ks line) (sym (one_loaded below contents tess is is')) next

module _ (below : LawsBelow) (contents : Contents) (rules : List ℕ) (k : ℕ) (u w : List Letter) (kinds : List TileKind) where
  -- rules that are loaded are not refused
  read_or_not : (a : TreeAutomaton) (line : Line) → IsRules contents kinds rules (Loaded a) → IsRules contents kinds rules (Refused line) → ⊥
  read_or_not a line loaded refused = let same = one_rules below contents kinds rules loaded refused in cc same

  one_logged : {line : Line} → LogRow contents rules k u w kinds line → {other : Line} → LogRow contents rules k u w kinds other → line ≡ other
  one_logged (log_no_rules line refused) (log_no_rules other refused') = let same = one_rules below contents kinds rules refused refused' in cc same
  one_logged (log_no_rules line refused) (log_too_deep a loaded far) = absurd (read_or_not a line loaded refused)
  one_logged (log_no_rules line refused) (log_apart a loaded near apart) = absurd (read_or_not a line loaded refused)
  one_logged (log_too_deep a loaded far) (log_no_rules line refused) = absurd (read_or_not a line loaded refused)
  one_logged (log_too_deep a loaded far) (log_too_deep b loaded' far') = refl
  one_logged (log_too_deep a loaded far) (log_apart b loaded' near apart) = absurd (near far)
  one_logged (log_apart a loaded near apart) (log_no_rules line refused) = absurd (read_or_not a line loaded refused)
  one_logged (log_apart a loaded near apart) (log_too_deep b loaded' far) = absurd (near far)
  one_logged (log_apart a loaded near apart) (log_apart b loaded' near' apart') = refl

  -- no line is due where a log is written
  unlogged : (a : TreeAutomaton) → IsRules contents kinds rules (Loaded a) → ¬ PassFar kinds k u w → AreRelated kinds (k, 0) u w → {line : Line} → LogRow contents rules k u w kinds line → ⊥
  unlogged a loaded near related (log_no_rules line refused) = read_or_not a line loaded refused
  unlogged a loaded near related (log_too_deep b loaded' far) = near far
  unlogged a loaded near related (log_apart b loaded' near' apart) = apart related

module _ (below : LawsBelow) (kinds : List TileKind) (k : ℕ) (u w : List Letter) (log : List Change) where
  one_verdict : {line : Line} → IsVerdict kinds k u w log line → {other : Line} → IsVerdict kinds k u w log other → line ≡ other
  one_verdict (log_leads leads) (log_leads leads') = refl
  one_verdict (log_leads leads) (log_refused n refused) = absurd (below.leads_nowhere kinds (k, 0) log u w n refused leads)
  one_verdict (log_leads leads) (log_ends (v, there, other)) = absurd (other (below.one_walk kinds (k, 0) log u v w there leads))
  one_verdict (log_refused n refused) (log_leads leads) = absurd (below.leads_nowhere kinds (k, 0) log u w n refused leads)
  one_verdict (log_refused n refused) (log_refused m refused') = ap (λ (x : ℕ). LogChange x) (below.one_refused kinds (k, 0) log u n m refused refused')
  one_verdict (log_refused n refused) (log_ends (v, there, other)) = absurd (below.leads_nowhere kinds (k, 0) log u v n refused there)
  one_verdict (log_ends (v, there, other)) (log_leads leads) = absurd (other (below.one_walk kinds (k, 0) log u v w there leads))
  one_verdict (log_ends (v, there, other)) (log_refused n refused) = absurd (below.leads_nowhere kinds (k, 0) log u v n refused there)
  one_verdict (log_ends (v, there, other)) (log_ends (v', there', other')) = refl

module _ (below : LawsBelow) (contents : Contents) (k : ℕ) (u w : List Letter) (file : List ℕ) (kinds : List TileKind) where
  one_verified : {line : Line} → VerifyRow contents k u w file kinds line → {other : Line} → VerifyRow contents k u w file kinds other → line ≡ other
  one_verified (verify_no_log line refused) (verify_no_log other refused') = let same = one_log_file below contents file refused refused' in cc same
  one_verified (verify_no_log line refused) (verify_log log other loaded verdict) = let same = one_log_file below contents file refused loaded in absurd (cc same)
  one_verified (verify_log log line loaded verdict) (verify_no_log other refused) = let same = one_log_file below contents file refused loaded in absurd (cc same)
  one_verified (verify_log log line loaded verdict) (verify_log more other loaded' verdict') =
      let outcome = one_log_file below contents file loaded loaded' in
      let same : log ≡ more = cc outcome in
      one_verdict below kinds k u w log verdict (subst (λ (l : List Change). IsVerdict kinds k u w l other) (sym same) verdict')

one_row : LawsBelow → (contents : Contents) (lesson : Lesson) (task : Task) (line other : Line) → Row contents lesson task line → Row contents lesson task other → line ≡ other
one_row below contents lesson (TellType tess k walk) line other one two = one_type below contents tess k walk one two
one_row below contents lesson (CheckRules tess rules) line other one two = one_check below contents lesson tess (FromFile rules) one two
one_row below contents lesson (RunSession tess k rules) line other one two = one_refused below contents lesson tess k rules one two
one_row below contents lesson (LearnRules tess cells out) line other one two = one_check below contents lesson tess (FromTeacher cells) one two
one_row below contents lesson (MergeRules tess rules out) line other one two = one_left below contents tess rules one two
one_row below contents lesson (WriteLog tess rules k u w) line other one two =
    one_of_kind below contents tess k (LogRow contents rules k u w) (λ kinds l m next next'. one_logged below contents rules k u w kinds next next') one two
one_row below contents lesson (VerifyLog tess k u w log) line other one two =
    one_of_kind below contents tess k (VerifyRow contents k u w log) (λ kinds l m next next'. one_verified below contents k u w log kinds next next') one two

-- a line that is due to words that ask for a task stands in the rows of that task
pub row_of : LawsBelow → (call : Call) (task : Task) → Ask call.words task → {line : Line} → IsDue call line → Row call.contents call.lesson task line
row_of below call task ask (no_form none) = absurd (none task ask)
row_of below call task ask (by_task other line asked row) =
    subst (λ (t : Task). Row call.contents call.lesson t line) (below.one_task call.words other task asked ask) row

same_due : LawsBelow → (call : Call) {line : Line} → IsDue call line → {other : Line} → IsDue call other → line ≡ other
same_due below call (no_form none) (no_form none') = refl
same_due below call (no_form none) (by_task task other ask row) = absurd (none task ask)
same_due below call (by_task task line ask row) two = one_row below call.contents call.lesson task line _ row (row_of below call task ask two)

pub one_line : LawsBelow → OneLineIsDue
one_line below call line other one two = same_due below call one two

pub one_session : LawsBelow → OneSessionIsServed
one_session below call kinds kinds' a a' k k' one two =
    let task = below.one_task call.words (RunSession two.tess k' two.rules) (RunSession one.tess k one.rules) two.form one.form in
    let tess : two.tess ≡ one.tess = cc task in
    let rules : two.rules ≡ one.rules = cc task in
    let number : k' ≡ k = cc task in
    let here : IsTess call.contents one.tess (Loaded kinds') = subst (λ (t : List ℕ). IsTess call.contents t (Loaded kinds')) tess (tess_loaded two.tess_bytes kinds' two.holds_tess two.tess_spelling two.valid) in
    let same = one_loaded below call.contents one.tess (tess_loaded one.tess_bytes kinds one.holds_tess one.tess_spelling one.valid) here in
    let loaded = same_rules_of below call.contents call.lesson kinds kinds' one.rules (Loaded a) (Loaded a') same one.loaded
    (subst (λ (r : RulesFrom). RulesOf call.contents call.lesson kinds' r (Loaded a')) rules two.loaded) in
    (same, cc loaded, sym number)

pub never_both : LawsBelow → NeverBoth
never_both below call line kinds a k due serves =
    unrefused below call.contents call.lesson serves.tess k serves.rules kinds a (tess_loaded serves.tess_bytes kinds serves.holds_tess serves.tess_spelling serves.valid) serves.is_kind serves.loaded
    (row_of below call (RunSession serves.tess k serves.rules) serves.form due)

pub never_a_log : LawsBelow → NeverALogToo
never_a_log below call line due logs =
    unlogged below call.contents logs.rules logs.k logs.u logs.w logs.kinds logs.ready.automaton logs.ready.read logs.ready.near logs.related
    (behind_kind below call.contents logs.tess logs.k (LogRow call.contents logs.rules logs.k logs.u logs.w) logs.kinds logs.ready.loaded logs.ready.is_kind
    (row_of below call (WriteLog logs.tess logs.rules logs.k logs.u logs.w) logs.form due))
