-- Where the words of a reading are definite, each command has exactly one reply.
use Rattle.std.proofs.Common.{◌≡◌, ◌≢◌, ℕ, zero, suc, ◌<◌, ◌≤◌, ◌⊎◌, inl, inr, List, [], ◌∷◌, ◌++◌, length, refl, sym, ap, ◌∙◌, subst, append_assoc, append-nil, arith, ⊎_elim}
use Rattle.std.specs.Prelude.{Contains}
use Rattle.std.proofs.lemmas.Bool.{cases_eq, cases_lt}
use Rattle.std.proofs.lemmas.List.Elements.{Contains-append_left, Contains-append_right, Contains-append_cases, Contains-push}
use Rattle.tile_model.specs.declared.Letter.{Letter}
use Rattle.tile_model.specs.Tessellations.{TileKind}
use Rattle.tree_model.specs.Limits.{deepest, most_counted, most_listed}
use Rattle.tree_model.specs.Names.{word}
use Rattle.tree_model.specs.Positions.{Position}
use Rattle.reply_model.specs.declared.Command.{Command}
use Rattle.reply_model.specs.declared.Command.TheVariants.{New, Go, At, Same, Level, Dist, Path}
use Rattle.reply_model.specs.declared.Command.TheVariants.{Put, Get, Ring, Count}
use Rattle.reply_model.specs.declared.Reply.{Reply}
use Rattle.reply_model.specs.declared.Reply.TheVariants.{Done, At as AtPlace, Yes, No, NoWalker, Taken, Deep}
use Rattle.reply_model.specs.declared.Reply.TheVariants.{Level as AtLevel, Dist as Apart, Path as Along}
use Rattle.reply_model.specs.declared.Reply.TheVariants.{Text, NoText, Tiles, Count as Counted}
use Rattle.reply_model.specs.declared.Reply.TheVariants.{Long, Far, TooBig, TooMany}
use Rattle.reply_model.specs.Histories.{History, Exists, walk_of}
use Rattle.reply_model.specs.Readings.{Reading}
use Rattle.reply_model.specs.Ways.{end_type, way_between}
use Rattle.reply_model.specs.Replies.{AreFar, PassesFar, TreePathPassesFar, IsReply}
use Rattle.reply_model.specs.Replies.{at_place_of, along_name_of, HasPlaceFrom}
use Rattle.reply_model.specs.Replies.{new_taken, new_made, go_nobody, go_deep, go_gone}
use Rattle.reply_model.specs.Replies.{at_nobody, at_place, same_nobody, same_tile, other_tile}
use Rattle.reply_model.specs.Replies.{level_nobody, level_told, dist_nobody, dist_deep, dist_told}
use Rattle.reply_model.specs.Replies.{path_nobody, path_deep, path_told}
use Rattle.reply_model.specs.Replies.{put_nobody, put_long, put_written}
use Rattle.reply_model.specs.Replies.{get_nobody, get_text, get_nothing}
use Rattle.reply_model.specs.Replies.{ring_far, ring_too_big, ring_too_many, ring_told}
use Rattle.reply_model.specs.Replies.{count_far, count_too_big, count_told}
use Rattle.reply_model.specs.Texts.{longest_text, IsLastText, IsBlank}
use Rattle.reply_model.specs.Sizes.{IsTooBig, IsFirstTooBig, AreCounted}
use Rattle.reply_laws.specs.Laws.{HaveOneReply, SayTheSame}
use Rattle.reply_laws.proofs.Alike.{EndsAreKnown}
use Rattle.reply_laws.proofs.Events.{Event, only_itself}
use Rattle.reply_laws.proofs.Texts.{Writes, blank_at_first, last_now, last_stays, blank_stays, one_last}

-- A fact holds or does not.
abbrev pub IsSettled : Type 0 → Type 0
IsSettled P = P ⊎ (P → ⊥)

pub settled_alike : {P Q : Type 0} → (P → Q) → (Q → P) → IsSettled P → IsSettled Q
settled_alike f g (inl p) = inl (f p)
settled_alike f g (inr n) = inr (λ q. n (g q))

-- the words of a reading, each of which has one value or holds or does not
pub record IsDefinite (kinds : List TileKind) (r : Reading) : Type 0 where
  pub place_some :
      (k : ℕ) → k < length kinds → (u : List Letter) → (p : Position) × r.HasPlace k u p
  pub place_one :
      (k : ℕ) → k < length kinds → (u : List Letter) (p q : Position) → r.HasPlace k u p →
      r.HasPlace k u q → p ≡ q
  pub together : (u w : List Letter) → IsSettled (r.AreTogether u w)
  pub apart_some : (u w : List Letter) → (n : ℕ) × r.AreApart u w n
  pub apart_one : (u w : List Letter) (m n : ℕ) → r.AreApart u w m → r.AreApart u w n → m ≡ n
  pub sizes_some : (d : ℕ) → (n : ℕ) × r.LieAway d n
  pub sizes_one : (d m n : ℕ) → r.LieAway d m → r.LieAway d n → m ≡ n

-- so are those of a reading that says the same
pub definite_alike :
    {kinds : List TileKind} {r s : Reading} → SayTheSame kinds r s → IsDefinite kinds r →
    IsDefinite kinds s
definite_alike t d = record {
  place_some = λ k lt u. let (p, h) = d.place_some k lt u in (p, (t.places k lt u p).0 h);
  place_one =
      λ k lt u p q h g. d.place_one k lt u p q ((t.places k lt u p).1 h) ((t.places k lt u q).1 g);
  together = λ u w. settled_alike (t.tiles u w).0 (t.tiles u w).1 (d.together u w);
  apart_some = λ u w. let (n, h) = d.apart_some u w in (n, (t.distances u w n).0 h);
  apart_one =
      λ u w m n h g. d.apart_one u w m n ((t.distances u w m).1 h) ((t.distances u w n).1 g);
  sizes_some = λ e. let (n, h) = d.sizes_some e in (n, (t.sizes e n).0 h);
  sizes_one = λ e m n h g. d.sizes_one e m n ((t.sizes e m).1 h) ((t.sizes e n).1 g);
}

-- whether a walker exists
abbrev number : Command → ℕ
number (New w) = w
number (Put w text) = w
number _ = 0

done_or_not : (x : Reply) → IsSettled (x ≡ Done)
done_or_not Done = inl refl
done_or_not _ = inr (λ e. absurd (cc))

new_or_not : (w : ℕ) (c : Command) → IsSettled (c ≡ New w)
new_or_not w (New v) = settled_alike (λ e. ap New e) (λ e. ap number e) (cases_eq v w)
new_or_not w _ = inr (λ e. absurd (cc))

-- whether a command writes, and what
put_or_not :
    (c : Command) → ((w : ℕ) × (text : List ℕ) × (c ≡ Put w text)) ⊎
    ((w : ℕ) (text : List ℕ) → c ≡ Put w text → ⊥)
put_or_not (Put w text) = inl (w, text, refl)
put_or_not _ = inr (λ w text e. absurd (cc))

made_or_not : (w : ℕ) (e : Event) → IsSettled (e ≡ (New w, Done))
made_or_not w e = both (new_or_not w e.0) (done_or_not e.1)
  where
    both : IsSettled (e.0 ≡ New w) → IsSettled (e.1 ≡ Done) → IsSettled (e ≡ (New w, Done))
    both (inl p) (inl q) = inl (ap (λ c. (c, e.1)) p ∙ ap (λ x. (New w, x)) q)
    both (inl p) (inr n) = inr (λ q. n (ap (λ (e : Event). e.1) q))
    both (inr n) q = inr (λ q. n (ap (λ (e : Event). e.0) q))

nothing_holds : (e : Event) → Contains [] e → ⊥
nothing_holds e x = absurd (omega (arith, x.1))

pub exists_or_not : (h : History) (w : ℕ) → IsSettled (Exists h w)
exists_or_not [] w = inr (nothing_holds (New w, Done))
exists_or_not (e ∷ h) w = first (made_or_not w e) (exists_or_not h w)
  where
    first : IsSettled (e ≡ (New w, Done)) → IsSettled (Exists h w) → IsSettled (Exists (e ∷ h) w)
    first (inl q) s =
        inl
        (Contains-append_left (e ∷ []) h (New w, Done)
        (subst (λ f. Contains (e ∷ []) f) q (Contains-push [] e)))
    first (inr n) (inl x) = inl (Contains-append_right (e ∷ []) h (New w, Done) x)
    first (inr n) (inr m) =
        inr
        (λ x. ⊎_elim (λ y. n (only_itself e (New w, Done) y)) m
        (Contains-append_cases (e ∷ []) h (New w, Done) x))

neither : {A B : Type 0} → A → B → (A → ⊥) ⊎ (B → ⊥) → ⊥
neither x y (inl n) = n x
neither x y (inr n) = n y

both_or_not : {A B : Type 0} → IsSettled A → IsSettled B → (A × B) ⊎ ((A → ⊥) ⊎ (B → ⊥))
both_or_not (inl x) (inl y) = inl (x, y)
both_or_not (inl x) (inr n) = inr (inr n)
both_or_not (inr n) s = inr (inl n)

abbrev first_letter : Letter → List Letter → Letter
first_letter d [] = d
first_letter d (x ∷ u) = x

abbrev later_letters : List Letter → List Letter
later_letters [] = []
later_letters (x ∷ u) = u

module _
    (kinds : List TileKind) (k : ℕ) (ends : EndsAreKnown kinds k) (r : Reading)
    (d : IsDefinite kinds r)
  where
    -- whether a tile is too far, and whether a walk passes one
    far_or_not : (u w : List Letter) → IsSettled (AreFar r u w)
    far_or_not u w =
        let (n, h) = d.apart_some u w in
        ⊎_elim
        (λ lt. inl (record { distance = n; apart = h; far = lt }))
        (λ ge. inr (λ f. absurd (omega (arith, ge, f.far, d.apart_one u w n f.distance h f.apart))))
        (cases_lt deepest n)

    passes_or_not : (home before walk : List Letter) → IsSettled (PassesFar r home before walk)
    passes_or_not home before [] = settled_alike here nowhere (far_or_not home (before ++ []))
      where
        here : AreFar r home (before ++ []) → PassesFar r home before []
        here f = record { prefix = []; rest = []; split = refl; far = f }

        nowhere : PassesFar r home before [] → AreFar r home (before ++ [])
        nowhere p = empty p.prefix p.rest p.split p.far
          where
            empty :
                (prefix rest : List Letter) → [] ≡ prefix ++ rest → AreFar r home (before ++ prefix) →
                AreFar r home (before ++ [])
            empty [] rest e f = f
            empty (x ∷ prefix) rest e f = absurd (cc)
    passes_or_not home before (x ∷ walk) =
        now (far_or_not home (before ++ [])) (passes_or_not home (before ++ x ∷ []) walk)
      where
        later :
            (prefix rest : List Letter) → x ∷ walk ≡ prefix ++ rest →
            AreFar r home (before ++ prefix) →
            AreFar r home (before ++ []) ⊎ PassesFar r home (before ++ x ∷ []) walk
        later [] rest e f = inl f
        later (y ∷ prefix) rest e f =
            let same : x ≡ y = ap (first_letter x) e in
            let place : before ++ y ∷ prefix ≡ (before ++ x ∷ []) ++ prefix =
            sym (append_assoc before (y ∷ []) prefix) ∙ ap (λ z. (before ++ z ∷ []) ++ prefix)
            (sym same) in
            let far = subst (AreFar r home) place f in
            inr (record { prefix = prefix; rest = rest; split = ap later_letters e; far = far })

        now :
            IsSettled (AreFar r home (before ++ [])) →
            IsSettled (PassesFar r home (before ++ x ∷ []) walk) →
            IsSettled (PassesFar r home before (x ∷ walk))
        now (inl f) s = inl (record { prefix = []; rest = x ∷ walk; split = refl; far = f })
        now (inr n) (inl p) =
            let split = ap (λ l. x ∷ l) p.split in
            let far = subst (AreFar r home) (append_assoc before (x ∷ []) p.prefix) p.far in
            inl (record { prefix = x ∷ p.prefix; rest = p.rest; split = split; far = far })
        now (inr n) (inr m) = inr (λ p. ⊎_elim n m (later p.prefix p.rest p.split p.far))

    tree_path_or_not : (u w : List Letter) → IsSettled (TreePathPassesFar r k u w)
    tree_path_or_not u w =
        let (p, h) = d.place_some k (ends []) w in
        settled_alike (λ f. record { place = p; placed = h; passes = f })
        (λ f. subst (λ (q : Position). PassesFar r u [] (word q.name))
        (d.place_one k (ends []) w f.place p f.placed h) f.passes)
        (passes_or_not u [] (word p.name))

    abbrev Due : History → Command → Reply → Type 0
    Due = IsReply kinds k r

    -- some reply of each command, whether nothing refuses it or something does
    go_some :
        (h : History) (w : ℕ) (u : List Letter) → IsSettled (Exists h w) →
        IsSettled (PassesFar r [] (walk_of h w) u) → (x : Reply) × Due h (Go w u) x
    go_some h w u (inl e) (inl p) = (Deep, go_deep w u e p)
    go_some h w u (inl e) (inr n) = (Done, go_gone w u e n)
    go_some h w u (inr n) s = (NoWalker, go_nobody w u n)

    at_some : (h : History) (w : ℕ) → IsSettled (Exists h w) → (x : Reply) × Due h (At w) x
    at_some h w (inl e) =
        let (p, l) = d.place_some k (ends []) (walk_of h w) in
        (at_place_of kinds k r h w p, at_place w p e l)
    at_some h w (inr n) = (NoWalker, at_nobody w n)

    same_some :
        (h : History) (w v : ℕ) → (Exists h w × Exists h v) ⊎ ((Exists h w → ⊥) ⊎ (Exists h v → ⊥)) →
        IsSettled (r.AreTogether (walk_of h w) (walk_of h v)) → (x : Reply) × Due h (Same w v) x
    same_some h w v (inl e) (inl t) = (Yes, same_tile w v e.0 e.1 t)
    same_some h w v (inl e) (inr n) = (No, other_tile w v e.0 e.1 n)
    same_some h w v (inr n) s = (NoWalker, same_nobody w v n)

    level_some : (h : History) (w : ℕ) → IsSettled (Exists h w) → (x : Reply) × Due h (Level w) x
    level_some h w (inl e) =
        let (n, a) = d.apart_some [] (walk_of h w) in (AtLevel n, level_told w n e a)
    level_some h w (inr n) = (NoWalker, level_nobody w n)

    dist_some :
        (h : History) (w v : ℕ) → (Exists h w × Exists h v) ⊎ ((Exists h w → ⊥) ⊎ (Exists h v → ⊥)) →
        IsSettled (TreePathPassesFar r k (walk_of h w) (walk_of h v)) →
        (x : Reply) × Due h (Dist w v) x
    dist_some h w v (inl e) (inl f) = (Deep, dist_deep w v e.0 e.1 f)
    dist_some h w v (inl e) (inr n) =
        let (m, a) = d.apart_some (walk_of h w) (walk_of h v) in
        (Apart m, dist_told w v m e.0 e.1 n a)
    dist_some h w v (inr n) s = (NoWalker, dist_nobody w v n)

    path_some :
        (h : History) (w v : ℕ) → (Exists h w × Exists h v) ⊎ ((Exists h w → ⊥) ⊎ (Exists h v → ⊥)) →
        IsSettled (TreePathPassesFar r k (walk_of h w) (walk_of h v)) →
        (x : Reply) × Due h (Path w v) x
    path_some h w v (inl e) (inl f) = (Deep, path_deep w v e.0 e.1 f)
    path_some h w v (inl e) (inr n) =
        let (p, l) =
        d.place_some (end_type kinds k (walk_of h w)).0 (ends (walk_of h w))
        (way_between kinds k (walk_of h w) (walk_of h v)) in
        (along_name_of kinds k r h w p, path_told w v p e.0 e.1 n l)
    path_some h w v (inr n) s = (NoWalker, path_nobody w v n)

    -- whether an event writes on a tile, and what
    writes_or_not :
        (h : History) (e : Event) (u : List Letter) →
        ((text : List ℕ) × Writes r h e u text) ⊎ ((text : List ℕ) → Writes r h e u text → ⊥)
    writes_or_not h e u = go (put_or_not e.0) (done_or_not e.1)
      where
        same_walker :
            (w : ℕ) (text other : List ℕ) → e.0 ≡ Put w text → Writes r h e u other →
            r.AreTogether (walk_of h w) u
        same_walker w text other p x =
            let walker : x.walker ≡ w = ap number (sym (ap (λ (f : Event). f.0) x.event) ∙ p) in
            subst (λ v. r.AreTogether (walk_of h v) u) walker x.there

        at_tile :
            (w : ℕ) (text : List ℕ) → e.0 ≡ Put w text → e ≡ (Put w text, Done) →
            IsSettled (r.AreTogether (walk_of h w) u) →
            ((text : List ℕ) × Writes r h e u text) ⊎ ((text : List ℕ) → Writes r h e u text → ⊥)
        at_tile w text p q (inl t) = inl (text, record { walker = w; event = q; there = t })
        at_tile w text p q (inr n) = inr (λ other x. n (same_walker w text other p x))

        go :
            ((w : ℕ) × (text : List ℕ) × (e.0 ≡ Put w text)) ⊎
            ((w : ℕ) (text : List ℕ) → e.0 ≡ Put w text → ⊥) → IsSettled (e.1 ≡ Done) →
            ((text : List ℕ) × Writes r h e u text) ⊎ ((text : List ℕ) → Writes r h e u text → ⊥)
        go (inl (w, text, p)) (inl q) =
            at_tile w text p (ap (λ c. (c, e.1)) p ∙ ap (λ x. (Put w text, x)) q)
            (d.together (walk_of h w) u)
        go (inl put) (inr n) = inr (λ other x. n (ap (λ (f : Event). f.1) x.event))
        go (inr n) _ = inr (λ other x. n x.walker other (ap (λ (f : Event). f.0) x.event))

    -- what was last written on a tile, or that nothing was
    abbrev Told : List Letter → History → Type 0
    Told u h = ((text : List ℕ) × IsLastText r h u text) ⊎ IsBlank r h u

    told_behind : (u : List Letter) (before rest : History) → Told u before → Told u (before ++ rest)
    told_behind u before [] told = subst (Told u) (sym (append-nil before)) told
    told_behind u before (e ∷ rest) told =
        subst (Told u) (append_assoc before (e ∷ []) rest)
        (told_behind u (before ++ e ∷ []) rest (next told (writes_or_not before e u)))
      where
        next :
            ((text : List ℕ) × IsLastText r before u text) ⊎ IsBlank r before u →
            ((text : List ℕ) × Writes r before e u text) ⊎
            ((text : List ℕ) → Writes r before e u text → ⊥) → Told u (before ++ e ∷ [])
        next _ (inl (text, w)) = inl (text, last_now r before e u text w)
        next (inl (text, l)) (inr n) = inl (text, last_stays r before e u n text l)
        next (inr blank) (inr n) = inr (blank_stays r before e u n blank)

    told : (u : List Letter) (h : History) → ((text : List ℕ) × IsLastText r h u text) ⊎ IsBlank r h u
    told u h = told_behind u [] h (inr (blank_at_first r u))

    get_some :
        (h : History) (w : ℕ) → IsSettled (Exists h w) →
        ((text : List ℕ) × IsLastText r h (walk_of h w) text) ⊎ IsBlank r h (walk_of h w) →
        (x : Reply) × Due h (Get w) x
    get_some h w (inl e) (inl (text, l)) = (Text text, get_text w text e l)
    get_some h w (inl e) (inr blank) = (NoText, get_nothing w e blank)
    get_some h w (inr n) _ = (NoWalker, get_nobody w n)

    put_some :
        (h : History) (w : ℕ) (text : List ℕ) → IsSettled (Exists h w) →
        (longest_text < length text) ⊎ (length text ≤ longest_text) →
        (x : Reply) × Due h (Put w text) x
    put_some h w text (inl e) (inl lt) = (Long, put_long w text e lt)
    put_some h w text (inl e) (inr le) = (Done, put_written w text e le)
    put_some h w text (inr n) _ = (NoWalker, put_nobody w text n)

    -- whether a ring is too big, and which is the first
    big_or_not : (q : ℕ) → IsSettled (IsTooBig r q)
    big_or_not q =
        let (n, h) = d.sizes_some q in
        ⊎_elim (λ lt. inl (record { size = n; away = h; big = lt }))
        (λ ge. inr (λ b. absurd (omega (arith, ge, b.big, d.sizes_one q n b.size h b.away))))
        (cases_lt most_counted n)

    first_big :
        (e : ℕ) → ((q : ℕ) × IsFirstTooBig r e q) ⊎ ((q : ℕ) → q ≤ e → IsTooBig r q → ⊥)
    first_big zero =
        ⊎_elim
        (λ b. inl (
          0,
          record { within = omega arith; big = b; first = λ q lt. absurd (omega (arith, lt)) },
        ))
        (λ n. inr (λ q le b. n (subst (IsTooBig r) (omega (arith, le)) b))) (big_or_not 0)
    first_big (suc e) = go (first_big e) (big_or_not (suc e))
      where
        none :
            ((q : ℕ) → q ≤ e → IsTooBig r q → ⊥) → (IsTooBig r (suc e) → ⊥) → (q : ℕ) →
            (q ≡ suc e) ⊎ (q ≢ suc e) → q ≤ suc e → IsTooBig r q → ⊥
        none before now q (inl same) le b = now (subst (IsTooBig r) same b)
        none before now q (inr other) le b = before q (omega (arith, le, other)) b

        go :
            ((q : ℕ) × IsFirstTooBig r e q) ⊎ ((q : ℕ) → q ≤ e → IsTooBig r q → ⊥) →
            IsSettled (IsTooBig r (suc e)) →
            ((q : ℕ) × IsFirstTooBig r (suc e) q) ⊎ ((q : ℕ) → q ≤ suc e → IsTooBig r q → ⊥)
        go (inl (q, f)) _ =
            inl (q, record { within = omega (arith, f.within); big = f.big; first = f.first })
        go (inr before) (inl b) =
            let first = λ (q : ℕ) (lt : q < suc e). before q (omega (arith, lt)) in
            inl (suc e, record { within = omega arith; big = b; first = first })
        go (inr before) (inr now) = inr (λ q. none before now q (cases_eq q (suc e)))

    one_first : (e q p : ℕ) → IsFirstTooBig r e q → IsFirstTooBig r e p → q ≡ p
    one_first e q p f g = go (cases_lt q p) (cases_lt p q)
      where
        go : (q < p) ⊎ (p ≤ q) → (p < q) ⊎ (q ≤ p) → q ≡ p
        go (inl lt) _ = absurd (g.first q lt f.big)
        go (inr _) (inl lt) = absurd (f.first p lt g.big)
        go (inr ge) (inr le) = omega (arith, ge, le)

    none_first : (e q n : ℕ) → IsFirstTooBig r e q → AreCounted r e n → ⊥
    none_first e q n f c = c.none_big q f.within f.big

    one_size : (e m n : ℕ) → AreCounted r e m → AreCounted r e n → m ≡ n
    one_size e m n c b = d.sizes_one e m n c.away b.away

    counted :
        (e : ℕ) → ((q : ℕ) × IsFirstTooBig r e q) ⊎ ((n : ℕ) × AreCounted r e n)
    counted e =
        ⊎_elim (λ f. inl f)
        (λ none.
        let (n, h) = d.sizes_some e in inr (n, record { none_big = none; away = h }))
        (first_big e)

    count_some :
        (h : History) (e : ℕ) → (deepest < e) ⊎ (e ≤ deepest) →
        ((q : ℕ) × IsFirstTooBig r e q) ⊎ ((n : ℕ) × AreCounted r e n) →
        (x : Reply) × Due h (Count e) x
    count_some h e (inl lt) _ = (Far, count_far e lt)
    count_some h e (inr le) (inl (q, f)) = (TooBig q, count_too_big e q le f)
    count_some h e (inr le) (inr (n, c)) = (Counted n, count_told e n le c)

    ring_some :
        (h : History) (e : ℕ) → (deepest < e) ⊎ (e ≤ deepest) →
        ((q : ℕ) × IsFirstTooBig r e q) ⊎ ((n : ℕ) × AreCounted r e n) →
        (x : Reply) × Due h (Ring e) x
    ring_some h e (inl lt) _ = (Far, ring_far e lt)
    ring_some h e (inr le) (inl (q, f)) = (TooBig q, ring_too_big e q le f)
    ring_some h e (inr le) (inr (n, c)) =
        ⊎_elim (λ many. (TooMany n, ring_too_many e n le c many))
        (λ few. (Tiles e n, ring_told e n le c few)) (cases_lt most_listed n)

    pub some_reply : (h : History) (c : Command) → (x : Reply) × Due h c x
    some_reply h (New w) =
        ⊎_elim (λ e. (Taken, new_taken w e)) (λ n. (Done, new_made w n)) (exists_or_not h w)
    some_reply h (Go w u) = go_some h w u (exists_or_not h w) (passes_or_not [] (walk_of h w) u)
    some_reply h (At w) = at_some h w (exists_or_not h w)
    some_reply h (Same w v) =
        same_some h w v (both_or_not (exists_or_not h w) (exists_or_not h v))
        (d.together (walk_of h w) (walk_of h v))
    some_reply h (Level w) = level_some h w (exists_or_not h w)
    some_reply h (Dist w v) =
        dist_some h w v (both_or_not (exists_or_not h w) (exists_or_not h v))
        (tree_path_or_not (walk_of h w) (walk_of h v))
    some_reply h (Path w v) =
        path_some h w v (both_or_not (exists_or_not h w) (exists_or_not h v))
        (tree_path_or_not (walk_of h w) (walk_of h v))
    some_reply h (Put w text) =
        put_some h w text (exists_or_not h w) (cases_lt longest_text (length text))
    some_reply h (Get w) = get_some h w (exists_or_not h w) (told (walk_of h w) h)
    some_reply h (Ring e) = ring_some h e (cases_lt deepest e) (counted e)
    some_reply h (Count e) = count_some h e (cases_lt deepest e) (counted e)

    one_place :
        (h : History) (w : ℕ) (p q : Position) → r.HasPlace k (walk_of h w) p →
        r.HasPlace k (walk_of h w) q → at_place_of kinds k r h w p ≡ at_place_of kinds k r h w q
    one_place h w p q l m = ap (at_place_of kinds k r h w) (d.place_one k (ends []) (walk_of h w) p q l m)

    one_way :
        (h : History) (w v : ℕ) (p q : Position) → HasPlaceFrom kinds k r h w v p →
        HasPlaceFrom kinds k r h w v q → along_name_of kinds k r h w p ≡ along_name_of kinds k r h w q
    one_way h w v p q l m =
        ap (along_name_of kinds k r h w)
        (d.place_one (end_type kinds k (walk_of h w)).0 (ends (walk_of h w))
        (way_between kinds k (walk_of h w) (walk_of h v)) p q l m)

    -- and no other one
    pub one_reply : (h : History) {c : Command} {x y : Reply} → Due h c x → Due h c y → x ≡ y
    one_reply h (new_taken w e) (new_taken v d) = refl
    one_reply h (new_taken w e) (new_made v n) = absurd (n e)
    one_reply h (new_made w n) (new_taken v e) = absurd (n e)
    one_reply h (new_made w n) (new_made v m) = refl
    one_reply h (go_nobody w u n) (go_nobody v t m) = refl
    one_reply h (go_nobody w u n) (go_deep v t e d) = absurd (n e)
    one_reply h (go_nobody w u n) (go_gone v t e d) = absurd (n e)
    one_reply h (go_deep w u e d) (go_nobody v t n) = absurd (n e)
    one_reply h (go_deep w u e d) (go_deep v t f g) = refl
    one_reply h (go_deep w u e d) (go_gone v t f n) = absurd (n d)
    one_reply h (go_gone w u e n) (go_nobody v t m) = absurd (m e)
    one_reply h (go_gone w u e n) (go_deep v t f d) = absurd (n d)
    one_reply h (go_gone w u e n) (go_gone v t f m) = refl
    one_reply h (at_nobody w n) (at_nobody v m) = refl
    one_reply h (at_nobody w n) (at_place v p e l) = absurd (n e)
    one_reply h (at_place w p e l) (at_nobody v n) = absurd (n e)
    one_reply h (at_place w p e l) (at_place v q f m) = one_place h w p q l m
    one_reply h (same_nobody w v n) (same_nobody i j m) = refl
    one_reply h (same_nobody w v n) (same_tile i j e f t) = absurd (neither e f n)
    one_reply h (same_nobody w v n) (other_tile i j e f t) = absurd (neither e f n)
    one_reply h (same_tile w v e f t) (same_nobody i j n) = absurd (neither e f n)
    one_reply h (same_tile w v e f t) (same_tile i j g m s) = refl
    one_reply h (same_tile w v e f t) (other_tile i j g m n) = absurd (n t)
    one_reply h (other_tile w v e f n) (same_nobody i j m) = absurd (neither e f m)
    one_reply h (other_tile w v e f n) (same_tile i j g m t) = absurd (n t)
    one_reply h (other_tile w v e f n) (other_tile i j g m s) = refl
    one_reply h (level_nobody w n) (level_nobody v m) = refl
    one_reply h (level_nobody w n) (level_told v m e a) = absurd (n e)
    one_reply h (level_told w n e a) (level_nobody v m) = absurd (m e)
    one_reply h (level_told w n e a) (level_told v m f b) =
        ap AtLevel (d.apart_one [] (walk_of h w) n m a b)
    one_reply h (dist_nobody w v n) (dist_nobody i j m) = refl
    one_reply h (dist_nobody w v n) (dist_deep i j e f g) = absurd (neither e f n)
    one_reply h (dist_nobody w v n) (dist_told i j m e f g a) = absurd (neither e f n)
    one_reply h (dist_deep w v e f g) (dist_nobody i j n) = absurd (neither e f n)
    one_reply h (dist_deep w v e f g) (dist_deep i j l m s) = refl
    one_reply h (dist_deep w v e f g) (dist_told i j m l s n a) = absurd (n g)
    one_reply h (dist_told w v m e f n a) (dist_nobody i j l) = absurd (neither e f l)
    one_reply h (dist_told w v m e f n a) (dist_deep i j l s g) = absurd (n g)
    one_reply h (dist_told w v m e f n a) (dist_told i j l s t g b) =
        ap Apart (d.apart_one (walk_of h w) (walk_of h v) m l a b)
    one_reply h (path_nobody w v n) (path_nobody i j m) = refl
    one_reply h (path_nobody w v n) (path_deep i j e f g) = absurd (neither e f n)
    one_reply h (path_nobody w v n) (path_told i j q e f g l) = absurd (neither e f n)
    one_reply h (path_deep w v e f g) (path_nobody i j n) = absurd (neither e f n)
    one_reply h (path_deep w v e f g) (path_deep i j l m s) = refl
    one_reply h (path_deep w v e f g) (path_told i j q l s n a) = absurd (n g)
    one_reply h (path_told w v p e f n l) (path_nobody i j m) = absurd (neither e f m)
    one_reply h (path_told w v p e f n l) (path_deep i j m s g) = absurd (n g)
    one_reply h (path_told w v p e f n l) (path_told i j q s t g m) = one_way h w v p q l m
    one_reply h (put_nobody w t n) (put_nobody v s m) = refl
    one_reply h (put_nobody w t n) (put_long v s e l) = absurd (n e)
    one_reply h (put_nobody w t n) (put_written v s e l) = absurd (n e)
    one_reply h (put_long w t e l) (put_nobody v s n) = absurd (n e)
    one_reply h (put_long w t e l) (put_long v s f m) = refl
    one_reply h (put_long w t e l) (put_written v s f m) = absurd (omega (arith, l, m))
    one_reply h (put_written w t e l) (put_nobody v s n) = absurd (n e)
    one_reply h (put_written w t e l) (put_long v s f m) = absurd (omega (arith, l, m))
    one_reply h (put_written w t e l) (put_written v s f m) = refl
    one_reply h (get_nobody w n) (get_nobody v m) = refl
    one_reply h (get_nobody w n) (get_text v s e l) = absurd (n e)
    one_reply h (get_nobody w n) (get_nothing v e b) = absurd (n e)
    one_reply h (get_text w t e l) (get_nobody v n) = absurd (n e)
    one_reply h (get_text w t e l) (get_text v s f m) =
        ap Text (one_last r h (walk_of h w) t s l m)
    one_reply h (get_text w t e l) (get_nothing v f b) = absurd (b l.before t l.written)
    one_reply h (get_nothing w e b) (get_nobody v n) = absurd (n e)
    one_reply h (get_nothing w e b) (get_text v t f l) = absurd (b l.before t l.written)
    one_reply h (get_nothing w e b) (get_nothing v f c) = refl
    one_reply h (ring_far e l) (ring_far f m) = refl
    one_reply h (ring_far e l) (ring_too_big f q m b) = absurd (omega (arith, l, m))
    one_reply h (ring_far e l) (ring_too_many f n m c i) = absurd (omega (arith, l, m))
    one_reply h (ring_far e l) (ring_told f n m c i) = absurd (omega (arith, l, m))
    one_reply h (ring_too_big e q l b) (ring_far f m) = absurd (omega (arith, l, m))
    one_reply h (ring_too_big e q l b) (ring_too_big f p m c) = ap TooBig (one_first e q p b c)
    one_reply h (ring_too_big e q l b) (ring_too_many f n m c i) = absurd (none_first e q n b c)
    one_reply h (ring_too_big e q l b) (ring_told f n m c i) = absurd (none_first e q n b c)
    one_reply h (ring_too_many e n l c i) (ring_far f m) = absurd (omega (arith, l, m))
    one_reply h (ring_too_many e n l c i) (ring_too_big f q m b) = absurd (none_first e q n b c)
    one_reply h (ring_too_many e n l c i) (ring_too_many f m j b g) = ap TooMany (one_size e n m c b)
    one_reply h (ring_too_many e n l c i) (ring_told f m j b g) =
        absurd (omega (arith, i, g, one_size e n m c b))
    one_reply h (ring_told e n l c i) (ring_far f m) = absurd (omega (arith, l, m))
    one_reply h (ring_told e n l c i) (ring_too_big f q m b) = absurd (none_first e q n b c)
    one_reply h (ring_told e n l c i) (ring_too_many f m j b g) =
        absurd (omega (arith, i, g, one_size e n m c b))
    one_reply h (ring_told e n l c i) (ring_told f m j b g) = ap (λ s. Tiles e s) (one_size e n m c b)
    one_reply h (count_far e l) (count_far f m) = refl
    one_reply h (count_far e l) (count_too_big f q m b) = absurd (omega (arith, l, m))
    one_reply h (count_far e l) (count_told f n m c) = absurd (omega (arith, l, m))
    one_reply h (count_too_big e q l b) (count_far f m) = absurd (omega (arith, l, m))
    one_reply h (count_too_big e q l b) (count_too_big f p m c) = ap TooBig (one_first e q p b c)
    one_reply h (count_too_big e q l b) (count_told f n m c) = absurd (none_first e q n b c)
    one_reply h (count_told e n l c) (count_far f m) = absurd (omega (arith, l, m))
    one_reply h (count_told e n l c) (count_too_big f q m b) = absurd (none_first e q n b c)
    one_reply h (count_told e n l c) (count_told f m i b) = ap Counted (one_size e n m c b)

    pub have_one_reply : HaveOneReply (IsReply kinds k r)
    have_one_reply = record { some = some_reply; one = λ h c x y a b. one_reply h a b }
