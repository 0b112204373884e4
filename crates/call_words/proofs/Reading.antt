-- What a list of words that begins with a form's word may ask for.
use Rattle.std.proofs.Common.{◌≡◌, ℕ, List, [], ◌∷◌, Result, Ok, Err, codes, arith, sym, ◌∙◌, ap, subst}
use Rattle.std.specs.Prelude.{IsErrAnd}
use Rattle.tile_model.specs.declared.Letter.{Letter}
use Rattle.tile_model.specs.WalkTexts.{walk_text}
use Rattle.short_numbers.specs.Numbers.{IsNumber}
use Rattle.call_words.specs.declared.forms.WordsFault.{WordsFault}
use Rattle.call_words.proofs.OneTask.{letter}
use Rattle.call_words.specs.Tasks.{Task, TellType, CheckRules, RunSession, LearnRules, MergeRules, WriteLog, VerifyLog, IsKindForm, Ask}

-- a kind and a walk that two words write
pub record IsStart (digits letters : List ℕ) (n : ℕ) (walk : List Letter) : Type 0 where
  pub number : IsNumber digits n
  pub text : walk_text walk ≡ letters

pub kind_form : (words : List (List ℕ)) (tess digits letters : List ℕ) (n : ℕ) (walk : List Letter) → words ≡ codes "kind" ∷ tess ∷ digits ∷ letters ∷ [] → IsNumber digits n → walk_text walk ≡ letters → IsKindForm words tess n walk
kind_form words tess digits letters n walk is number text =
    record { digits = digits; number = number; spelled = is ∙ ap (λ (l : List ℕ). codes "kind" ∷ tess ∷ digits ∷ l ∷ []) (sym text) }

-- a task that the words of a form `kind` ask for
pub record IsKindTask (tess digits letters : List ℕ) (task : Task) : Type 0 where
  pub k : ℕ
  pub walk : List Letter
  pub is : task ≡ TellType tess k walk
  pub number : IsNumber digits k
  pub text : walk_text walk ≡ letters

pub kind_task : (words : List (List ℕ)) (tess digits letters : List ℕ) → words ≡ codes "kind" ∷ tess ∷ digits ∷ letters ∷ [] → (task : Task) → Ask words task → IsKindTask tess digits letters task
kind_task words tess digits letters is (TellType t k walk) ask =
    let same_tess : t ≡ tess = cc (is, ask.spelled) in
    let same_digits : ask.digits ≡ digits = cc (is, ask.spelled) in
    record {
      k = k;
      walk = walk;
      is = ap (λ (x : List ℕ). TellType x k walk) same_tess;
      number = subst (λ (l : List ℕ). IsNumber l k) same_digits ask.number;
      text = cc (is, ask.spelled);
    }
kind_task words tess digits letters is (CheckRules t r) ask = absurd (cc (is, ask))
kind_task words tess digits letters is (RunSession t n r) ask = absurd (cc (is, ask.spelled))
kind_task words tess digits letters is (LearnRules t m r) ask = let other : 107 ≡ 108 = ap (letter 0) (sym is ∙ ask.spelled) in absurd (omega (arith, other))
kind_task words tess digits letters is (MergeRules t r o) ask = let other : 107 ≡ 109 = ap (letter 0) (sym is ∙ ask) in absurd (omega (arith, other))
kind_task words tess digits letters is (WriteLog t r n u w) ask = let other : 107 ≡ 108 = ap (letter 0) (sym is ∙ ask.spelled) in absurd (omega (arith, other))
kind_task words tess digits letters is (VerifyLog t n u w l) ask = let other : 107 ≡ 118 = ap (letter 0) (sym is ∙ ask.spelled) in absurd (omega (arith, other))

-- what `?` hands on is the fault that came
pub same_fault : {A : Type 0} (result : Result A WordsFault) (fault other : WordsFault) → IsErrAnd result (λ y. y ≡ fault) → result ≡ Err other → fault ≡ other
same_fault (Ok x) fault other gives is = absurd gives
same_fault (Err y) fault other gives is = let same : y ≡ other = cc is in sym gives ∙ same
