-- What a log comes to that is written on.
use Rattle.std.proofs.Common.{◌≡◌, ℕ, Bool, true, false, not, List, All, [], ◌∷◌, ◌++◌, length, refl, sym, ap, ◌∙◌, subst, arith, append_assoc, append-nil}
use Rattle.std.proofs.lemmas.List.{same_from_push, length_push, get_or_push, get_or_append_left}
use Rattle.tile_model.specs.declared.Letter.{Letter}
use Rattle.tile_model.specs.Tessellations.{TileKind}
use Rattle.tile_model.specs.Relation.{Change, Changes, inserts, deletes, Lead}
use Rattle.tile_model.proofs.Relations.{lead_append}
use Rattle.log_model.specs.LogTexts.{HasText}
use Rattle.log_laws.proofs.Changes.{lead_split, one_change}
use Rattle.derivation_log.specs.Drafts.{undoing, IsWritten, IsWrittenBack}

pub written_none : (log : List Change) → IsWritten log [] log
written_none log kinds d u w l = subst (λ m. Lead kinds d m u w) (append-nil log) l

-- a change, taken back
pub taken_back : (kinds : List TileKind) (d : ℕ × ℕ) (c : Change) (u w : List Letter) → Changes kinds d c u w → Changes kinds d (undoing c) w u
taken_back kinds d c u w (inserts before loop behind insert at is from to) = deletes before loop behind (ap not insert) at is to from
taken_back kinds d c u w (deletes before loop behind insert at is from to) = inserts before loop behind (ap not insert) at is to from

-- and again
back_again : (c : Change) → undoing (undoing c) ≡ c
back_again c = λ i. record { at = c.at; loop = c.loop; insert = not_twice c.insert i }
  where
    not_twice : (b : Bool) → not (not b) ≡ b
    not_twice true = refl
    not_twice false = refl

-- a change that undoes the last one
undone : (kinds : List TileKind) (d : ℕ × ℕ) (log : List Change) (c : Change) (u w : List Letter) → Lead kinds d ((log ++ undoing c ∷ []) ++ c ∷ []) u w → Lead kinds d log u w
undone kinds d log c u w l =
    let s = lead_split kinds d (log ++ undoing c ∷ []) (c ∷ []) u w l in
    let t = lead_split kinds d log (undoing c ∷ []) u s.0 s.1 in
    let there : Changes kinds d (undoing c) t.0 s.0 = subst (λ z. Changes kinds d (undoing c) t.0 z) t.2.2 t.2.1 in
    let again : Changes kinds d c s.0 t.0 = subst (λ b. Changes kinds d b s.0 t.0) (back_again c) (taken_back kinds d (undoing c) t.0 s.0 there) in
    let same : t.0 ≡ w = one_change kinds d again (subst (λ z. Changes kinds d c s.0 z) s.2.2 s.2.1) in
    subst (λ z. Lead kinds d log u z) same t.1

-- the last change is taken away
pub written_less : (log less front : List Change) (x c : Change) → log ≡ less ++ x ∷ [] → log ≡ front ++ undoing c ∷ [] → IsWritten log (c ∷ []) less
written_less log less front x c e f kinds d u w l =
    let same = same_from_push less front x (undoing c) (sym e ∙ f) in
    let split : log ≡ less ++ undoing c ∷ [] = e ∙ ap (λ y. less ++ y ∷ []) same.1 in
    undone kinds d less c u w (subst (λ m. Lead kinds d (m ++ c ∷ []) u w) split l)

-- changes written behind others
pub written_more : (log changes next more last : List Change) → IsWritten log changes next → IsWritten next more last → IsWritten log (changes ++ more) last
written_more log changes next more last first second kinds d u w l =
    let s = lead_split kinds d (log ++ changes) more u w (subst (λ m. Lead kinds d m u w) (sym (append_assoc log changes more)) l) in
    second kinds d u w (lead_append kinds d next more u s.0 w (first kinds d u s.0 s.1) s.2)

-- The log was written on by the changes of a piece, turned round, but for these first ones.
abbrev pub Undoing : (before piece rest log : List Change) → Type 0
Undoing before piece rest log =
    (kinds : List TileKind) (d : ℕ × ℕ) (u v w : List Letter)
    → Lead kinds d before u w → Lead kinds d piece v w
    → (m : List Letter) × Lead kinds d log u m × Lead kinds d rest v m

-- and the changes that are left have texts
pub record Turning (before piece rest log : List Change) : Type 0 where
  pub undone : Undoing before piece rest log
  pub texts : All HasText rest

pub last_text : (rest front : List Change) (c : Change) → rest ≡ front ++ c ∷ [] → All HasText rest → HasText (undoing c)
last_text rest front c e h =
    let whole = subst (All HasText) e h in
    let text = subst HasText (get_or_push front c c (length front) refl) (whole (length front) c (omega (arith, length_push front c))) in
    record { place = text.place; least = text.least; most = text.most }

front_texts : (rest front : List Change) (c : Change) → rest ≡ front ++ c ∷ [] → All HasText rest → All HasText front
front_texts rest front c e h = λ k d l.
    let whole = subst (All HasText) e h in
    subst HasText (get_or_append_left front (c ∷ []) d k l) (whole k d (omega (arith, l, length_push front c)))

undoing_starts : (before piece rest : List Change) → rest ≡ piece → Undoing before piece rest before
undoing_starts before piece rest e kinds d u v w l p = (w, l, subst (λ c. Lead kinds d c v w) (sym e) p)

undoing_on : (before piece rest front log next : List Change) (c : Change) → Undoing before piece rest log → rest ≡ front ++ c ∷ [] → IsWritten log (undoing c ∷ []) next → Undoing before piece front next
undoing_on before piece rest front log next c h e written kinds d u v w l p =
    let now = h kinds d u v w l p in
    let s = lead_split kinds d front (c ∷ []) v now.0 (subst (λ m. Lead kinds d m v now.0) e now.2) in
    let there : Changes kinds d c s.0 now.0 = subst (λ z. Changes kinds d c s.0 z) s.2.2 s.2.1 in
    let back = taken_back kinds d c s.0 now.0 there in
    (s.0, written kinds d u s.0 (lead_append kinds d log (undoing c ∷ []) u now.0 s.0 now.1 (s.0, back, refl)), s.1)

pub undoing_ends : (before piece rest log : List Change) → Undoing before piece rest log → rest ≡ [] → IsWrittenBack before piece log
undoing_ends before piece rest log h e kinds d u v w l p =
    let now = h kinds d u v w l p in
    let same : v ≡ now.0 = subst (λ m. Lead kinds d m v now.0) e now.2 in
    subst (λ z. Lead kinds d log u z) (sym same) now.1

pub turning_starts : (before piece rest : List Change) → rest ≡ piece → All HasText piece → Turning before piece rest before
turning_starts before piece rest e h = record { undone = undoing_starts before piece rest e; texts = subst (All HasText) (sym e) h }

pub turning_on : (before piece rest front log next : List Change) (c : Change) → Turning before piece rest log → rest ≡ front ++ c ∷ [] → IsWritten log (undoing c ∷ []) next → Turning before piece front next
turning_on before piece rest front log next c h e w = record { undone = undoing_on before piece rest front log next c h.undone e w; texts = front_texts rest front c e h.texts }
