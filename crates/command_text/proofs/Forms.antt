-- A line spells one command: its first word and what stands behind it tell which.
use Rattle.std.proofs.Common.{◌≡◌, ◌≢◌, ℕ, ◌==◌, Bool, true, false, List, [], ◌∷◌, ◌++◌, if◌then◌else◌, Option, Some, None, refl, sym, ap, ap₂, ◌∙◌, subst}
use Rattle.std.specs.Str.{bytes_eq}
use Rattle.std.proofs.lemmas.List.Elements.{All-nil, All-cons}
use Rattle.tile_model.specs.declared.Letter.{Letter}
use Rattle.reply_model.specs.declared.Command.{Command}
use Rattle.reply_model.specs.declared.Command.TheVariants.{New, Go, At, Same, Level, Dist, Path}
use Rattle.reply_model.specs.declared.Command.TheVariants.{Put, Get, Ring, Count}
use Rattle.command_text.specs.CommandLines.{space, spaced, Operands, one_walker, two_walkers, walker_and_walk, walker_and_text, one_distance, verb_text, verb_of, word_of, operands_of, IsSpelling, SpellsNothing}
use Rattle.command_text.specs.Words.{Lacks, AreToldBy, Shape, walker_alone, walkers, walker_with_walk, walker_with_text, distance_alone, shape_of, TellNothing, IsCommandOf, IsNoCommandOf}
use Rattle.command_text.specs.declared.command.Verb.{Verb}
use Rattle.command_text.specs.declared.command.Verb.TheVariants.{New as NewVerb, Go as GoVerb, At as AtVerb, Same as SameVerb, Level as LevelVerb, Dist as DistVerb, Path as PathVerb}
use Rattle.command_text.specs.declared.command.Verb.TheVariants.{Put as PutVerb, Get as GetVerb, Ring as RingVerb, Count as CountVerb}
use Rattle.command_text.proofs.Splits.{lacks_none, one_split}
use Rattle.command_text.proofs.Operands.{one_told, behind_word}

-- the command of a shape that is told this
abbrev of_walker : (ℕ → Command) → Operands → Option Command
of_walker make (one_walker w) = Some (make w)
of_walker make _ = None

abbrev of_walkers : (ℕ → ℕ → Command) → Operands → Option Command
of_walkers make (two_walkers w v) = Some (make w v)
of_walkers make _ = None

abbrev of_walk : (ℕ → List Letter → Command) → Operands → Option Command
of_walk make (walker_and_walk w walk) = Some (make w walk)
of_walk make _ = None

abbrev of_text : (ℕ → List ℕ → Command) → Operands → Option Command
of_text make (walker_and_text w text) = Some (make w text)
of_text make _ = None

abbrev of_distance : (ℕ → Command) → Operands → Option Command
of_distance make (one_distance d) = Some (make d)
of_distance make _ = None

-- what the commands of a verb look like
pub record Form : Type 0 where
  pub shape : Shape
  pub make : Operands → Option Command

-- the table of the verbs
abbrev pub form : Verb → Form
form NewVerb = record { shape = walker_alone; make = of_walker New }
form GoVerb = record { shape = walker_with_walk; make = of_walk Go }
form AtVerb = record { shape = walker_alone; make = of_walker At }
form SameVerb = record { shape = walkers; make = of_walkers Same }
form LevelVerb = record { shape = walker_alone; make = of_walker Level }
form DistVerb = record { shape = walkers; make = of_walkers Dist }
form PathVerb = record { shape = walkers; make = of_walkers Path }
form PutVerb = record { shape = walker_with_text; make = of_text Put }
form GetVerb = record { shape = walker_alone; make = of_walker Get }
form RingVerb = record { shape = distance_alone; make = of_distance Ring }
form CountVerb = record { shape = distance_alone; make = of_distance Count }

-- The row of the table for the command's verb says what the command looks like.
pub record HasForm (c : Command) : Type 0 where
  pub shape : (form (verb_of c)).shape ≡ shape_of (operands_of c)
  pub made : (form (verb_of c)).make (operands_of c) ≡ Some c

abbrev row :
    {c : Command} → (form (verb_of c)).shape ≡ shape_of (operands_of c)
    → (form (verb_of c)).make (operands_of c) ≡ Some c → HasForm c
row shape made = record { shape = shape; made = made }

-- each command has a row of the table
has_form : (c : Command) → HasForm c
has_form (New w) = row refl refl
has_form (Go w walk) = row refl refl
has_form (At w) = row refl refl
has_form (Same w v) = row refl refl
has_form (Level w) = row refl refl
has_form (Dist w v) = row refl refl
has_form (Path w v) = row refl refl
has_form (Put w text) = row refl refl
has_form (Get w) = row refl refl
has_form (Ring d) = row refl refl
has_form (Count d) = row refl refl

-- the byte is another one than a space
abbrev is_other : ℕ → Bool
is_other byte = if byte == space then false else true

other_byte : (byte : ℕ) → is_other byte ≡ true → byte ≢ space
other_byte byte other e = absurd (cc (sym (ap is_other e) ∙ other))

both_true : (a b : Bool) → (if a then b else false) ≡ true → (a ≡ true) × (b ≡ true)
both_true true b e = (refl, e)
both_true false b e = absurd (cc)

abbrev all_other : List ℕ → Bool
all_other [] = true
all_other (byte ∷ bytes) = if is_other byte then all_other bytes else false

lacks_by : (bytes : List ℕ) → all_other bytes ≡ true → Lacks space bytes
lacks_by [] e = All-nil (λ b. b ≢ space)
lacks_by (byte ∷ bytes) e =
    let both = both_true (is_other byte) (all_other bytes) e in
    All-cons (λ b. b ≢ space) byte bytes (other_byte byte both.0) (lacks_by bytes both.1)

-- all verbs
abbrev pub verbs : List Verb
verbs =
    NewVerb ∷ GoVerb ∷ AtVerb ∷ SameVerb ∷ LevelVerb ∷ DistVerb ∷ PathVerb ∷ PutVerb ∷ GetVerb
    ∷ RingVerb ∷ CountVerb ∷ []

-- the first of these verbs that has the word
abbrev pub find : List ℕ → List Verb → Option Verb
find word [] = None
find word (verb ∷ rest) = if bytes_eq word (verb_text verb) then Some verb else find word rest

-- The word of a verb has no space, and no other verb has it.
pub record IsWord (verb : Verb) : Type 0 where
  pub found : find (verb_text verb) verbs ≡ Some verb
  pub lacks : Lacks space (verb_text verb)

a_word :
    {verb : Verb} → find (verb_text verb) verbs ≡ Some verb → all_other (verb_text verb) ≡ true
    → IsWord verb
a_word {verb} found other =
    record { found = found; lacks = lacks_by (verb_text verb) other }

pub is_word : (verb : Verb) → IsWord verb
is_word NewVerb = a_word refl refl
is_word GoVerb = a_word refl refl
is_word AtVerb = a_word refl refl
is_word SameVerb = a_word refl refl
is_word LevelVerb = a_word refl refl
is_word DistVerb = a_word refl refl
is_word PathVerb = a_word refl refl
is_word PutVerb = a_word refl refl
is_word GetVerb = a_word refl refl
is_word RingVerb = a_word refl refl
is_word CountVerb = a_word refl refl

one_verb : (v u : Verb) → verb_text v ≡ verb_text u → v ≡ u
one_verb v u same =
    let found =
    sym (is_word v).found ∙ ap (λ (l : List ℕ). find l verbs) same ∙ (is_word u).found in
    cc found

-- no first word has a space
lacks_space : (c : Command) → Lacks space (word_of c)
lacks_space c = (is_word (verb_of c)).lacks

-- the line of a command, cut behind its first word
pub record IsParted (line : List ℕ) (c : Command) : Type 0 where
  pub rest : List ℕ
  pub text : line ≡ word_of c ++ space ∷ rest
  pub told : AreToldBy rest (operands_of c)

parts : (line : List ℕ) (c : Command) → IsSpelling line c → IsParted line c
parts line c is = record {
  rest = spaced is.words;
  text = is.text ∙ behind_word (word_of c) is.told;
  told = record { words = is.words; told = is.told; text = refl };
}

abbrev the_command : Command → Option Command → Command
the_command c None = c
the_command c (Some d) = d

pub unique : (line : List ℕ) (c d : Command) → IsSpelling line c → IsSpelling line d → c ≡ d
unique line c d is also =
    let p = parts line c is in
    let q = parts line d also in
    let same =
    one_split space (word_of c) (word_of d) p.rest q.rest (lacks_space c) (lacks_space d)
    (sym p.text ∙ q.text) in
    let verb = one_verb (verb_of c) (verb_of d) same.0 in
    let shape =
    sym (has_form c).shape ∙ ap (λ (v : Verb). (form v).shape) verb ∙ (has_form d).shape in
    let told =
    one_told q.rest (operands_of c) (operands_of d)
    (subst (λ (l : List ℕ). AreToldBy l (operands_of c)) same.1 p.told) q.told shape in
    ap (the_command c)
    (sym (has_form c).made ∙ ap₂ (λ (v : Verb) (o : Operands). (form v).make o) verb told ∙ (has_form d).made)

-- bytes that tell nothing of the shape of a verb tell no command of it
pub no_command :
    (verb known : Verb) (bytes : List ℕ) → verb ≡ known → TellNothing bytes (form known).shape
    → IsNoCommandOf verb bytes
no_command verb known bytes same none = λ c is.
    none (operands_of c)
    (sym (has_form c).shape ∙ ap (λ (v : Verb). (form v).shape) (is.of_verb ∙ same))
    is.told

-- a first word, and behind it what the command is told
pub spells :
    (line word rest : List ℕ) (verb : Verb) (c : Command) → line ≡ word ++ space ∷ rest
    → word ≡ verb_text verb → IsCommandOf verb rest c → IsSpelling line c
spells line word rest verb c e is of =
    let told = of.told in
    record {
      words = told.words;
      told = told.told;
      text =
          e
          ∙ ap₂ (λ (a b : List ℕ). a ++ space ∷ b) (is ∙ ap verb_text (sym of.of_verb)) told.text
          ∙ sym (behind_word (word_of c) told.told);
    }

module _ (line word rest : List ℕ) (e : line ≡ word ++ space ∷ rest) (lacks : Lacks space word) where
  -- what a line that begins with the word spells
  begins : (c : Command) (p : IsParted line c) → (word_of c ≡ word) × (p.rest ≡ rest)
  begins c p = one_split space (word_of c) word p.rest rest (lacks_space c) lacks (sym p.text ∙ e)

  -- the word of a verb, and behind it no command of the verb
  pub spells_none :
      (verb : Verb) → word ≡ verb_text verb → IsNoCommandOf verb rest → SpellsNothing line
  spells_none verb is none = λ c spelt.
      let p = parts line c spelt in
      let same = begins c p in
      none c (record {
        of_verb = one_verb (verb_of c) verb (same.0 ∙ is);
        told = subst (λ (l : List ℕ). AreToldBy l (operands_of c)) same.1 p.told;
      })

  -- a word that is the one of no verb
  pub unknown : ((verb : Verb) → word ≢ verb_text verb) → SpellsNothing line
  unknown none = λ c spelt.
      let same = begins c (parts line c spelt) in
      none (verb_of c) (sym same.0)

-- one word alone
pub one_word : (line : List ℕ) → Lacks space line → SpellsNothing line
one_word line lacks = λ c spelt.
    let p = parts line c spelt in
    lacks_none space line (word_of c) p.rest lacks p.text
