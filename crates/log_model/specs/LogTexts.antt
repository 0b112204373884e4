-- The text of a log: a line for each change.
use Rattle.std.specs.Prelude.{◌≡◌, ◌≢◌, ℕ, suc, ◌+◌, ◌<◌, ◌≤◌, ◌^◌, Bool, true, false, List, [], ◌∷◌, ◌++◌, length, All, codes, decimal}
use Rattle.tile_model.specs.Relation.{Change}

-- a change has a text: its place is below 2 to the 64, and its loop is 1 to 5
pub record HasText (c : Change) : Type 0 where
  pub place : c.at < 2 ^ 64
  pub least : 1 ≤ c.loop
  pub most : c.loop ≤ 5

-- whether the loop is inserted or deleted
abbrev pub change_word : Bool → List ℕ
change_word true = codes "ins "
change_word false = codes "del "

-- `ins` or `del`, the place in digits without leading zeros, and the digit of the loop, with a space
-- before each number
abbrev pub change_text : Change → List ℕ
change_text c = change_word c.insert ++ (decimal c.at ++ (32 ∷ (48 + c.loop) ∷ []))

-- each change is a line that a line feed ends; the empty log has no bytes
abbrev pub log_text : List Change → List ℕ
log_text [] = []
log_text (c ∷ log) = change_text c ++ (10 ∷ log_text log)

-- no byte is a line feed
abbrev pub IsOneLine : List ℕ → Type 0
IsOneLine bytes = All (λ b. b ≢ 10) bytes

-- The bytes begin with a bad line: it is the last and no line feed ends it, or it is the text of no
-- change.
pub data StartsBad (bytes : List ℕ) : Type 0 where
  not_ended : bytes ≢ [] → IsOneLine bytes → StartsBad bytes
  no_change : (line behind : List ℕ) → IsOneLine line → bytes ≡ line ++ (10 ∷ behind)
      → ((c : Change) → HasText c → change_text c ≢ line) → StartsBad bytes

-- Line number n, counted from 1, is the first that is bad: the lines before it are those of changes.
pub record IsFirstBadLine (bytes : List ℕ) (n : ℕ) : Type 0 where
  pub before : List Change
  pub have_text : All HasText before
  pub rest : List ℕ
  pub split : bytes ≡ log_text before ++ rest
  pub number : n ≡ suc (length before)
  pub bad : StartsBad rest
