-- Words ask for one task alone.
use Rattle.std.proofs.Common.{◌≡◌, ℕ, List, [], Option, Some, None, codes, get_or, arith, sym, ◌∙◌, ap, subst}
use Rattle.std.specs.Str.Parse.{digits_value}
use Rattle.tile_model.specs.WalkTexts.{walk_text}
use Rattle.tile_model.proofs.WalkTexts.{one_walk}
use Rattle.call_words.specs.Options.{value_of}
use Rattle.call_words.specs.Tasks.{Task, TellType, CheckRules, RunSession, LearnRules, MergeRules, WriteLog, VerifyLog, Ask, IsCells, AreCellsOf, IsOriginOf, RulesFrom, FromFile, FromTeacher, AskInRange, AreCells, IsInRange}

-- the letter at a place of the first word
abbrev pub letter : ℕ → List (List ℕ) → ℕ
letter place words = get_or (get_or words 0 []) place 0

-- digits write one number of cells
one_number : (digits : List ℕ) (n m : ℕ) → IsCells digits n → IsCells digits m → n ≡ m
one_number digits n m one two = sym one.number.value ∙ two.number.value

-- the value of `--cells` says one number of cells
one_cells : (value : Option (List ℕ)) (n m : ℕ) → AreCellsOf value n → AreCellsOf value m → n ≡ m
one_cells None n m one two = one ∙ sym two
one_cells (Some digits) n m one two = one_number digits n m one two

-- options say one origin of rules
one_origin : (file cells : Option (List ℕ)) (r s : RulesFrom) → IsOriginOf file cells r → IsOriginOf file cells s → r ≡ s
one_origin None cells (FromFile f) s one two = absurd one
one_origin None cells (FromTeacher n) (FromFile g) one two = absurd two
one_origin None cells (FromTeacher n) (FromTeacher m) one two = ap FromTeacher (one_cells cells n m one two)
one_origin (Some file) None (FromFile f) (FromFile g) one two = ap FromFile (sym one ∙ two)
one_origin (Some file) None (FromFile f) (FromTeacher m) one two = absurd two
one_origin (Some file) None (FromTeacher n) s one two = absurd one
one_origin (Some file) (Some digits) r s one two = absurd one

-- the same of options that are equal
same_origin : (o p : List (List ℕ)) (r s : RulesFrom) → o ≡ p
    → IsOriginOf (value_of (codes "--rules") o) (value_of (codes "--cells") o) r
    → IsOriginOf (value_of (codes "--rules") p) (value_of (codes "--cells") p) s → r ≡ s
same_origin o p r s same one two =
    one_origin (value_of (codes "--rules") p) (value_of (codes "--cells") p) r s
    (subst (λ (x : List (List ℕ)). IsOriginOf (value_of (codes "--rules") x) (value_of (codes "--cells") x) r) same one) two

same_cells_of : (o p : List (List ℕ)) (n m : ℕ) → o ≡ p → AreCellsOf (value_of (codes "--cells") o) n → AreCellsOf (value_of (codes "--cells") p) m → n ≡ m
same_cells_of o p n m same one two =
    one_cells (value_of (codes "--cells") p) n m (subst (λ (x : List (List ℕ)). AreCellsOf (value_of (codes "--cells") x) n) same one) two

-- words ask for one task
pub one_task : (words : List (List ℕ)) (task other : Task) → Ask words task → Ask words other → task ≡ other
one_task words (TellType tess k walk) (TellType tess' k' walk') one two =
    let same_tess : tess ≡ tess' = cc (one.spelled, two.spelled) in
    let digits : one.digits ≡ two.digits = cc (one.spelled, two.spelled) in
    let text : walk_text walk ≡ walk_text walk' = cc (one.spelled, two.spelled) in
    let same_kind : k ≡ k' = sym one.number.value ∙ ap (λ (l : List ℕ). digits_value 10 l) digits ∙ two.number.value in
    cc (same_tess, same_kind, one_walk walk walk' text)
one_task words (CheckRules tess rules) (CheckRules tess' rules') one two = cc (one, two)
one_task words (RunSession tess k rules) (RunSession tess' k' rules') one two =
    let same_tess : tess ≡ tess' = cc (one.spelled, two.spelled) in
    let digits : one.digits ≡ two.digits = cc (one.spelled, two.spelled) in
    let options : one.options ≡ two.options = cc (one.spelled, two.spelled) in
    let same_rules : rules ≡ rules' = same_origin one.options two.options rules rules' options one.origin two.origin in
    let same_kind : k ≡ k' = sym one.number.value ∙ ap (λ (l : List ℕ). digits_value 10 l) digits ∙ two.number.value in
    cc (same_tess, same_kind, same_rules)
one_task words (LearnRules tess cells out) (LearnRules tess' cells' out') one two =
    let same_tess : tess ≡ tess' = cc (one.spelled, two.spelled) in
    let options : one.options ≡ two.options = cc (one.spelled, two.spelled) in
    let same_cells : cells ≡ cells' = same_cells_of one.options two.options cells cells' options one.most two.most in
    let same_out : out ≡ out' = sym one.stored ∙ ap (λ (x : List (List ℕ)). value_of (codes "--out") x) options ∙ two.stored in
    cc (same_tess, same_cells, same_out)
one_task words (MergeRules tess rules out) (MergeRules tess' rules' out') one two = cc (one, two)
one_task words (TellType tess k walk) (CheckRules tess' rules') one two = let other : 107 ≡ 99 = ap (letter 0) (sym one.spelled ∙ two) in absurd (omega (arith, other))
one_task words (TellType tess k walk) (RunSession tess' k' rules') one two = let other : 107 ≡ 114 = ap (letter 0) (sym one.spelled ∙ two.spelled) in absurd (omega (arith, other))
one_task words (TellType tess k walk) (LearnRules tess' cells' out') one two = let other : 107 ≡ 108 = ap (letter 0) (sym one.spelled ∙ two.spelled) in absurd (omega (arith, other))
one_task words (CheckRules tess rules) (TellType tess' k' walk') one two = let other : 99 ≡ 107 = ap (letter 0) (sym one ∙ two.spelled) in absurd (omega (arith, other))
one_task words (CheckRules tess rules) (RunSession tess' k' rules') one two = let other : 99 ≡ 114 = ap (letter 0) (sym one ∙ two.spelled) in absurd (omega (arith, other))
one_task words (CheckRules tess rules) (LearnRules tess' cells' out') one two = let other : 99 ≡ 108 = ap (letter 0) (sym one ∙ two.spelled) in absurd (omega (arith, other))
one_task words (RunSession tess k rules) (TellType tess' k' walk') one two = let other : 114 ≡ 107 = ap (letter 0) (sym one.spelled ∙ two.spelled) in absurd (omega (arith, other))
one_task words (RunSession tess k rules) (CheckRules tess' rules') one two = let other : 114 ≡ 99 = ap (letter 0) (sym one.spelled ∙ two) in absurd (omega (arith, other))
one_task words (RunSession tess k rules) (LearnRules tess' cells' out') one two = let other : 114 ≡ 108 = ap (letter 0) (sym one.spelled ∙ two.spelled) in absurd (omega (arith, other))
one_task words (LearnRules tess cells out) (TellType tess' k' walk') one two = let other : 108 ≡ 107 = ap (letter 0) (sym one.spelled ∙ two.spelled) in absurd (omega (arith, other))
one_task words (LearnRules tess cells out) (CheckRules tess' rules') one two = let other : 108 ≡ 99 = ap (letter 0) (sym one.spelled ∙ two) in absurd (omega (arith, other))
one_task words (LearnRules tess cells out) (RunSession tess' k' rules') one two = let other : 108 ≡ 114 = ap (letter 0) (sym one.spelled ∙ two.spelled) in absurd (omega (arith, other))
one_task words (TellType tess k walk) (MergeRules tess' rules' out') one two = let other : 107 ≡ 109 = ap (letter 0) (sym one.spelled ∙ two) in absurd (omega (arith, other))
one_task words (MergeRules tess rules out) (TellType tess' k' walk') one two = let other : 109 ≡ 107 = ap (letter 0) (sym one ∙ two.spelled) in absurd (omega (arith, other))
one_task words (CheckRules tess rules) (MergeRules tess' rules' out') one two = let other : 99 ≡ 109 = ap (letter 0) (sym one ∙ two) in absurd (omega (arith, other))
one_task words (MergeRules tess rules out) (CheckRules tess' rules') one two = let other : 109 ≡ 99 = ap (letter 0) (sym one ∙ two) in absurd (omega (arith, other))
one_task words (RunSession tess k rules) (MergeRules tess' rules' out') one two = let other : 114 ≡ 109 = ap (letter 0) (sym one.spelled ∙ two) in absurd (omega (arith, other))
one_task words (MergeRules tess rules out) (RunSession tess' k' rules') one two = let other : 109 ≡ 114 = ap (letter 0) (sym one ∙ two.spelled) in absurd (omega (arith, other))
one_task words (LearnRules tess cells out) (MergeRules tess' rules' out') one two = let other : 108 ≡ 109 = ap (letter 0) (sym one.spelled ∙ two) in absurd (omega (arith, other))
one_task words (MergeRules tess rules out) (LearnRules tess' cells' out') one two = let other : 109 ≡ 108 = ap (letter 0) (sym one ∙ two.spelled) in absurd (omega (arith, other))
one_task words (WriteLog tess rules k u w) (WriteLog tess' rules' k' u' w') one two =
    let same_tess : tess ≡ tess' = cc (one.spelled, two.spelled) in
    let same_rules : rules ≡ rules' = cc (one.spelled, two.spelled) in
    let digits : one.digits ≡ two.digits = cc (one.spelled, two.spelled) in
    let text : walk_text u ≡ walk_text u' = cc (one.spelled, two.spelled) in
    let other : walk_text w ≡ walk_text w' = cc (one.spelled, two.spelled) in
    let same_kind : k ≡ k' = sym one.number.value ∙ ap (λ (l : List ℕ). digits_value 10 l) digits ∙ two.number.value in
    cc (same_tess, same_rules, same_kind, one_walk u u' text, one_walk w w' other)
one_task words (VerifyLog tess k u w log) (VerifyLog tess' k' u' w' log') one two =
    let same_tess : tess ≡ tess' = cc (one.spelled, two.spelled) in
    let digits : one.digits ≡ two.digits = cc (one.spelled, two.spelled) in
    let text : walk_text u ≡ walk_text u' = cc (one.spelled, two.spelled) in
    let other : walk_text w ≡ walk_text w' = cc (one.spelled, two.spelled) in
    let same_log : log ≡ log' = cc (one.spelled, two.spelled) in
    let same_kind : k ≡ k' = sym one.number.value ∙ ap (λ (l : List ℕ). digits_value 10 l) digits ∙ two.number.value in
    cc (same_tess, same_kind, one_walk u u' text, one_walk w w' other, same_log)
one_task words (TellType tess k walk) (WriteLog tess' rules' k' u' w') one two = let other : 107 ≡ 108 = ap (letter 0) (sym one.spelled ∙ two.spelled) in absurd (omega (arith, other))
one_task words (WriteLog tess rules k u w) (TellType tess' k' walk') one two = let other : 108 ≡ 107 = ap (letter 0) (sym one.spelled ∙ two.spelled) in absurd (omega (arith, other))
one_task words (TellType tess k walk) (VerifyLog tess' k' u' w' log') one two = let other : 107 ≡ 118 = ap (letter 0) (sym one.spelled ∙ two.spelled) in absurd (omega (arith, other))
one_task words (VerifyLog tess k u w log) (TellType tess' k' walk') one two = let other : 118 ≡ 107 = ap (letter 0) (sym one.spelled ∙ two.spelled) in absurd (omega (arith, other))
one_task words (CheckRules tess rules) (WriteLog tess' rules' k' u' w') one two = let other : 99 ≡ 108 = ap (letter 0) (sym one ∙ two.spelled) in absurd (omega (arith, other))
one_task words (WriteLog tess rules k u w) (CheckRules tess' rules') one two = let other : 108 ≡ 99 = ap (letter 0) (sym one.spelled ∙ two) in absurd (omega (arith, other))
one_task words (CheckRules tess rules) (VerifyLog tess' k' u' w' log') one two = let other : 99 ≡ 118 = ap (letter 0) (sym one ∙ two.spelled) in absurd (omega (arith, other))
one_task words (VerifyLog tess k u w log) (CheckRules tess' rules') one two = let other : 118 ≡ 99 = ap (letter 0) (sym one.spelled ∙ two) in absurd (omega (arith, other))
one_task words (RunSession tess k rules) (WriteLog tess' rules' k' u' w') one two = let other : 114 ≡ 108 = ap (letter 0) (sym one.spelled ∙ two.spelled) in absurd (omega (arith, other))
one_task words (WriteLog tess rules k u w) (RunSession tess' k' rules') one two = let other : 108 ≡ 114 = ap (letter 0) (sym one.spelled ∙ two.spelled) in absurd (omega (arith, other))
one_task words (RunSession tess k rules) (VerifyLog tess' k' u' w' log') one two = let other : 114 ≡ 118 = ap (letter 0) (sym one.spelled ∙ two.spelled) in absurd (omega (arith, other))
one_task words (VerifyLog tess k u w log) (RunSession tess' k' rules') one two = let other : 118 ≡ 114 = ap (letter 0) (sym one.spelled ∙ two.spelled) in absurd (omega (arith, other))
one_task words (LearnRules tess cells out) (WriteLog tess' rules' k' u' w') one two = let other : 101 ≡ 111 = ap (letter 1) (sym one.spelled ∙ two.spelled) in absurd (omega (arith, other))
one_task words (WriteLog tess rules k u w) (LearnRules tess' cells' out') one two = let other : 111 ≡ 101 = ap (letter 1) (sym one.spelled ∙ two.spelled) in absurd (omega (arith, other))
one_task words (LearnRules tess cells out) (VerifyLog tess' k' u' w' log') one two = let other : 108 ≡ 118 = ap (letter 0) (sym one.spelled ∙ two.spelled) in absurd (omega (arith, other))
one_task words (VerifyLog tess k u w log) (LearnRules tess' cells' out') one two = let other : 118 ≡ 108 = ap (letter 0) (sym one.spelled ∙ two.spelled) in absurd (omega (arith, other))
one_task words (MergeRules tess rules out) (WriteLog tess' rules' k' u' w') one two = let other : 109 ≡ 108 = ap (letter 0) (sym one ∙ two.spelled) in absurd (omega (arith, other))
one_task words (WriteLog tess rules k u w) (MergeRules tess' rules' out') one two = let other : 108 ≡ 109 = ap (letter 0) (sym one.spelled ∙ two) in absurd (omega (arith, other))
one_task words (MergeRules tess rules out) (VerifyLog tess' k' u' w' log') one two = let other : 109 ≡ 118 = ap (letter 0) (sym one ∙ two.spelled) in absurd (omega (arith, other))
one_task words (VerifyLog tess k u w log) (MergeRules tess' rules' out') one two = let other : 118 ≡ 109 = ap (letter 0) (sym one.spelled ∙ two) in absurd (omega (arith, other))
one_task words (WriteLog tess rules k u w) (VerifyLog tess' k' u' w' log') one two = let other : 108 ≡ 118 = ap (letter 0) (sym one.spelled ∙ two.spelled) in absurd (omega (arith, other))
one_task words (VerifyLog tess k u w log) (WriteLog tess' rules' k' u' w') one two = let other : 118 ≡ 108 = ap (letter 0) (sym one.spelled ∙ two.spelled) in absurd (omega (arith, other))

-- the cells that words name are in range
cells_in_range : (value : Option (List ℕ)) (n : ℕ) → AreCellsOf value n → AreCells n
cells_in_range None n is = (omega (arith, is), omega (arith, is))
cells_in_range (Some digits) n is = (is.least, is.most)

origin_in_range : (file cells : Option (List ℕ)) (r : RulesFrom) → IsOriginOf file cells r → AskInRange r
origin_in_range file cells (FromFile f) is = tt
origin_in_range None cells (FromTeacher n) is = cells_in_range cells n is
origin_in_range (Some file) None (FromTeacher n) is = absurd is
origin_in_range (Some file) (Some digits) (FromTeacher n) is = absurd is

pub in_range : (words : List (List ℕ)) (task : Task) → Ask words task → IsInRange task
in_range words (TellType tess k walk) ask = tt
in_range words (CheckRules tess rules) ask = tt
in_range words (RunSession tess k rules) ask = origin_in_range _ _ rules ask.origin
in_range words (LearnRules tess cells out) ask = cells_in_range _ cells ask.most
in_range words (MergeRules tess rules out) ask = tt
in_range words (WriteLog tess rules k u w) ask = tt
in_range words (VerifyLog tess k u w log) ask = tt
