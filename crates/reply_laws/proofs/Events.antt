-- Histories with one event more at the end: which walkers exist, and which walks they have.
use Rattle.std.proofs.Common.{◌≡◌, ℕ, ◌⊎◌, inl, inr, [], ◌∷◌, ◌++◌, refl, sym, ap, ◌∙◌, append_assoc, append-nil, arith, ⊎_elim}
use Rattle.std.specs.Prelude.{Contains}
use Rattle.std.proofs.lemmas.List.Elements.{Contains-append_left, Contains-push, Contains-push_cases}
use Rattle.reply_model.specs.declared.Command.{Command}
use Rattle.reply_model.specs.declared.Command.TheVariants.{New}
use Rattle.reply_model.specs.declared.Reply.{Reply}
use Rattle.reply_model.specs.declared.Reply.TheVariants.{Done}
use Rattle.reply_model.specs.Histories.{History, Exists, letters_for, walk_of}

abbrev pub Event : Type 0
Event = Command × Reply

-- the first event of a history, or another one where it has none
abbrev pub first_or : Event → History → Event
first_or d [] = d
first_or d (e ∷ h) = e

abbrev pub others : History → History
others [] = []
others (e ∷ h) = h

pub walk_push :
    (h : History) (c : Command) (x : Reply) (w : ℕ) →
    walk_of (h ++ (c, x) ∷ []) w ≡ walk_of h w ++ letters_for w c x
walk_push [] c x w = append-nil (letters_for w c x)
walk_push (e ∷ h) c x w =
    ap (λ l. letters_for w e.0 e.1 ++ l) (walk_push h c x w) ∙ sym
    (append_assoc (letters_for w e.0 e.1) (walk_of h w) (letters_for w c x))

-- an event that adds no letters
pub walk_stays :
    (h : History) (c : Command) (x : Reply) (w : ℕ) → letters_for w c x ≡ [] →
    walk_of (h ++ (c, x) ∷ []) w ≡ walk_of h w
walk_stays h c x w e = walk_push h c x w ∙ ap (λ l. walk_of h w ++ l) e ∙ append-nil (walk_of h w)

pub exists_push : (h : History) (e : Event) (w : ℕ) → Exists h w → Exists (h ++ e ∷ []) w
exists_push h e w x = Contains-append_left h (e ∷ []) (New w, Done) x

pub exists_made : (h : History) (w : ℕ) → Exists (h ++ (New w, Done) ∷ []) w
exists_made h w = Contains-push h (New w, Done)

-- an event that makes no walker
pub exists_before :
    (h : History) (e : Event) (w : ℕ) → (e ≡ (New w, Done) → ⊥) → Exists (h ++ e ∷ []) w →
    Exists h w
exists_before h e w n x =
    ⊎_elim (λ y. y) (λ y. absurd (n y)) (Contains-push_cases h e (New w, Done) x)

pub exists_front : (h g : History) (w : ℕ) → Exists h w → Exists (h ++ g) w
exists_front h g w x = Contains-append_left h g (New w, Done) x

-- a history of one event holds no other
pub only_itself : (e f : Event) → Contains (e ∷ []) f → e ≡ f
only_itself e f x =
    ⊎_elim (λ y. absurd (omega (arith, y.1))) (λ y. y) (Contains-push_cases [] e f x)

-- where an event stands in a history with one event more at the end
pub push_cases :
    (h : History) (e : Event) (before : History) (f : Event) (rest : History) →
    h ++ e ∷ [] ≡ before ++ f ∷ rest →
    ((h ≡ before) × (e ≡ f)) ⊎ ((more : History) × (h ≡ before ++ f ∷ more))
push_cases [] e [] f rest p = inl (refl, ap (first_or e) p)
push_cases [] e (b ∷ before) f rest p = absurd (none_behind before f rest (ap others p))
  where
    none_behind : (l : History) (f : Event) (rest : History) → [] ≡ l ++ f ∷ rest → ⊥
    none_behind [] f rest q = absurd (cc)
    none_behind (b ∷ l) f rest q = absurd (cc)
push_cases (a ∷ h) e [] f rest p = inr (h, ap (λ y. y ∷ h) (ap (first_or a) p))
push_cases (a ∷ h) e (b ∷ before) f rest p =
    ⊎_elim (λ y. inl (same a b h before (ap (first_or a) p) y.0, y.1))
    (λ y. inr (y.0, same a b h (before ++ f ∷ y.0) (ap (first_or a) p) y.1))
    (push_cases h e before f rest (ap others p))
  where
    same : (a b : Event) (h g : History) → a ≡ b → h ≡ g → a ∷ h ≡ b ∷ g
    same a b h g p q = ap (λ y. y ∷ h) p ∙ ap (λ l. b ∷ l) q
