-- What stands between the commands that make and move walkers can be left out of a history.
-- Walkers and walks stay, so histories with the same of these commands have the same walkers.
use Rattle.std.proofs.Common.{◌≡◌, ℕ, List, [], ◌∷◌, ◌++◌, refl, sym, ap, ◌∙◌, subst, append_assoc, append-nil, ⊎_elim}
use Rattle.std.specs.Prelude.{Contains}
use Rattle.std.proofs.lemmas.List.Elements.{Contains-append_left, Contains-append_right, Contains-append_cases}
use Rattle.tile_model.specs.Tessellations.{TileKind}
use Rattle.reply_model.specs.declared.Command.{Command}
use Rattle.reply_model.specs.declared.Command.TheVariants.{New, Go}
use Rattle.reply_model.specs.declared.Reply.{Reply}
use Rattle.reply_model.specs.declared.Reply.TheVariants.{Done}
use Rattle.reply_model.specs.Histories.{History, AreDue, Exists, letters_for, walk_of}
use Rattle.reply_model.specs.Readings.{Reading}
use Rattle.reply_model.specs.Replies.{IsReply}
use Rattle.reply_laws.specs.Laws.{as_move, moves, asks_at, asks_level, InterleavingsAgree}
use Rattle.reply_laws.proofs.Alike.{EndsAreKnown}
use Rattle.reply_laws.proofs.Events.{Event, only_itself}
use Rattle.reply_laws.proofs.Definite.{IsDefinite, one_reply}
use Rattle.reply_laws.proofs.Histories.{HaveSameWalks, AsksNoText, none_due, due_push, due_alike}

-- the event alone where its command makes or moves a walker, else nothing
abbrev kept : Command → Reply → History
kept (New w) x = (New w, x) ∷ []
kept (Go w u) x = (Go w u, x) ∷ []
kept _ x = []

abbrev pruned : History → History
pruned [] = []
pruned (e ∷ h) = kept e.0 e.1 ++ pruned h

abbrev commands : History → List Command
commands [] = []
commands (e ∷ h) = e.0 ∷ commands h

abbrev first_command : Command → List Command → Command
first_command d [] = d
first_command d (c ∷ l) = c

abbrev other_commands : List Command → List Command
other_commands [] = []
other_commands (c ∷ l) = l

walk_kept :
    (c : Command) (x : Reply) (h g : History) (w : ℕ) → walk_of h w ≡ walk_of g w →
    walk_of (kept c x ++ h) w ≡ letters_for w c x ++ walk_of g w
walk_kept (New v) x h g w e = e
walk_kept (Go v u) x h g w e = ap (λ l. letters_for w (Go v u) x ++ l) e
walk_kept _ x h g w e = e

walk_pruned : (h : History) (w : ℕ) → walk_of (pruned h) w ≡ walk_of h w
walk_pruned [] w = refl
walk_pruned (e ∷ h) w = walk_kept e.0 e.1 (pruned h) h w (walk_pruned h w)

-- an event in front, before and behind a change of what follows
follow :
    (e f : Event) (h g : History) → (Contains h f → Contains g f) → Contains (e ∷ h) f →
    Contains (e ∷ g) f
follow e f h g s x =
    ⊎_elim (λ y. Contains-append_left (e ∷ []) g f y)
    (λ y. Contains-append_right (e ∷ []) g f (s y)) (Contains-append_cases (e ∷ []) h f x)

behind :
    (e f : Event) (h g : History) → (Contains h f → Contains g f) → Contains h f →
    Contains (e ∷ g) f
behind e f h g s x = Contains-append_right (e ∷ []) g f (s x)

left_out :
    (e f : Event) (h g : History) → (e ≡ f → ⊥) → (Contains h f → Contains g f) →
    Contains (e ∷ h) f → Contains g f
left_out e f h g n s x =
    ⊎_elim (λ y. absurd (n (only_itself e f y))) s (Contains-append_cases (e ∷ []) h f x)

kept_holds :
    (c : Command) (x : Reply) (h g : History) (w : ℕ) → (Exists h w → Exists g w) →
    Exists (kept c x ++ h) w → Exists ((c, x) ∷ g) w
kept_holds (New v) x h g w s = follow (New v, x) (New w, Done) h g s
kept_holds (Go v u) x h g w s = follow (Go v u, x) (New w, Done) h g s
kept_holds c x h g w s = behind (c, x) (New w, Done) h g s

holds_kept :
    (c : Command) (x : Reply) (h g : History) (w : ℕ) → (Exists h w → Exists g w) →
    Exists ((c, x) ∷ h) w → Exists (kept c x ++ g) w
holds_kept (New v) x h g w s = follow (New v, x) (New w, Done) h g s
holds_kept (Go v u) x h g w s = follow (Go v u, x) (New w, Done) h g s
holds_kept c x h g w s =
    left_out (c, x) (New w, Done) h g
    (λ e. let made : c ≡ New w = ap (λ (f : Event). f.0) e in absurd (cc)) s

pruned_holds : (h : History) (w : ℕ) → Exists (pruned h) w → Exists h w
pruned_holds [] w x = x
pruned_holds (e ∷ h) w x = kept_holds e.0 e.1 (pruned h) h w (pruned_holds h w) x

holds_pruned : (h : History) (w : ℕ) → Exists h w → Exists (pruned h) w
holds_pruned [] w x = x
holds_pruned (e ∷ h) w x = holds_kept e.0 e.1 h (pruned h) w (holds_pruned h w) x

pruned_push : (h : History) (e : Event) → pruned (h ++ e ∷ []) ≡ pruned h ++ kept e.0 e.1
pruned_push [] e = append-nil (kept e.0 e.1)
pruned_push (f ∷ h) e =
    ap (λ l. kept f.0 f.1 ++ l) (pruned_push h e) ∙ sym
    (append_assoc (kept f.0 f.1) (pruned h) (kept e.0 e.1))

kept_command :
    (c : Command) (x : Reply) (h : History) (l : List Command) → commands h ≡ l →
    commands (kept c x ++ h) ≡ as_move c ++ l
kept_command (New w) x h l e = ap (λ l. New w ∷ l) e
kept_command (Go w u) x h l e = ap (λ l. Go w u ∷ l) e
kept_command _ x h l e = e

pruned_commands : (h : History) → commands (pruned h) ≡ moves h
pruned_commands [] = refl
pruned_commands (e ∷ h) = kept_command e.0 e.1 (pruned h) (moves h) (pruned_commands h)

pub pruned_same : (h : History) → HaveSameWalks h (pruned h)
pruned_same h = record {
  there = holds_pruned h;
  back = pruned_holds h;
  walks = λ w. sym (walk_pruned h w);
}

same_pruned : (h : History) → HaveSameWalks (pruned h) h
same_pruned h = record { there = pruned_holds h; back = holds_pruned h; walks = walk_pruned h }

module _ (kinds : List TileKind) (k : ℕ) (r : Reading) where
  abbrev Due : History → Command → Reply → Type 0
  Due = IsReply kinds k r

  due_kept :
      (c : Command) (x : Reply) (h g : History) → AreDue Due g → (AsksNoText c → Due g c x) →
      h ≡ g ++ kept c x → AreDue Due h
  due_kept (New w) x h g due d e =
      subst (AreDue Due) (sym e) (due_push Due g (New w) x due (d tt))
  due_kept (Go w u) x h g due d e =
      subst (AreDue Due) (sym e) (due_push Due g (Go w u) x due (d tt))
  due_kept _ x h g due d e = subst (AreDue Due) (sym (e ∙ append-nil g)) due

  pruned_due :
      (before rest : History) → AreDue Due (before ++ rest) → AreDue Due (pruned before) →
      AreDue Due (pruned before ++ pruned rest)
  pruned_due before [] due done = subst (AreDue Due) (sym (append-nil (pruned before))) done
  pruned_due before (e ∷ rest) due done =
      let d : Due before e.0 e.1 = due before rest e.0 e.1 refl in
      let d' : AsksNoText e.0 → Due (pruned before) e.0 e.1 =
      λ asks. due_alike kinds k r before (pruned before) (pruned_same before) asks d in
      let more =
      due_kept e.0 e.1 (pruned (before ++ e ∷ [])) (pruned before) done d'
      (pruned_push before e) in
      let split : before ++ e ∷ rest ≡ (before ++ e ∷ []) ++ rest =
      sym (append_assoc before (e ∷ []) rest) in
      let all = pruned_due (before ++ e ∷ []) rest (subst (AreDue Due) split due) more in
      let same : pruned (before ++ e ∷ []) ++ pruned rest ≡ pruned before ++
      (kept e.0 e.1 ++ pruned rest) = ap (λ l. l ++ pruned rest) (pruned_push before e) ∙
      append_assoc (pruned before) (kept e.0 e.1) (pruned rest) in
      subst (AreDue Due) same all

module _
    (kinds : List TileKind) (k : ℕ) (ends : EndsAreKnown kinds k) (r : Reading)
    (definite : IsDefinite kinds r)
  where
    -- histories of the same commands are the same
    same_events :
        (before h g : History) → AreDue (IsReply kinds k r) (before ++ h) →
        AreDue (IsReply kinds k r) (before ++ g) → commands h ≡ commands g → h ≡ g
    same_events before [] [] dh dg e = refl
    same_events before [] (f ∷ g) dh dg e = absurd (cc)
    same_events before (d ∷ h) [] dh dg e = absurd (cc)
    same_events before (d ∷ h) (f ∷ g) dh dg e =
        let command : d.0 ≡ f.0 = ap (first_command d.0) e in
        let reply : d.1 ≡ f.1 =
        one_reply kinds k ends r definite before (dh before h d.0 d.1 refl)
        (subst (λ c. IsReply kinds k r before c f.1) (sym command)
        (dg before g f.0 f.1 refl)) in
        let event : d ≡ f = ap (λ c. (c, d.1)) command ∙ ap (λ x. (f.0, x)) reply in
        let split_h : before ++ d ∷ h ≡ (before ++ d ∷ []) ++ h =
        sym (append_assoc before (d ∷ []) h) in
        let split_g : before ++ f ∷ g ≡ (before ++ d ∷ []) ++ g =
        sym (append_assoc before (f ∷ []) g) ∙ ap (λ y. (before ++ y ∷ []) ++ g) (sym event) in
        let rest : h ≡ g =
        same_events (before ++ d ∷ []) h g (subst (AreDue (IsReply kinds k r)) split_h dh)
        (subst (AreDue (IsReply kinds k r)) split_g dg) (ap other_commands e) in
        ap (λ y. y ∷ h) event ∙ ap (λ l. f ∷ l) rest

    -- so the replies to all that asks of no text are the same
    interleaved :
        (h g : History) → AreDue (IsReply kinds k r) h → AreDue (IsReply kinds k r) g →
        moves h ≡ moves g → {c : Command} {x : Reply} → AsksNoText c → IsReply kinds k r h c x →
        IsReply kinds k r g c x
    interleaved h g dh dg e {c} {x} asks d =
        let none = none_due (IsReply kinds k r) in
        let same : pruned h ≡ pruned g =
        same_events [] (pruned h) (pruned g) (pruned_due kinds k r [] h dh none)
        (pruned_due kinds k r [] g dg none) (pruned_commands h ∙ e ∙ sym (pruned_commands g)) in
        let there : IsReply kinds k r (pruned h) c x =
        due_alike kinds k r h (pruned h) (pruned_same h) asks d in
        due_alike kinds k r (pruned g) g (same_pruned g) asks
        (subst (λ l. IsReply kinds k r l c x) same there)

    pub interleavings_agree : InterleavingsAgree (IsReply kinds k r)
    interleavings_agree h g dh dg e c x (asks_at w) d = interleaved h g dh dg e tt d
    interleavings_agree h g dh dg e c x (asks_level w) d = interleaved h g dh dg e tt d
