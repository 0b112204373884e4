-- The queue of pairs: begun, with a pair more, and with a side or an entry more gone through.
use Rattle.std.proofs.Common.{◌≡◌, ◌≢◌, ◌⊎◌, inl, inr, ℕ, zero, suc, ◌+◌, ◌<◌, ◌≤◌, List, [], ◌∷◌, ◌++◌, length, slice_index_or, refl, sym, ap, ◌∙◌, subst, arith}
use Rattle.std.specs.Prelude.{Option}
use Rattle.std.proofs.lemmas.Bool.{cases_eq, cases_lt}
use Rattle.std.proofs.lemmas.List.{get_or_append_left, get_or_push, get_or_past, length_push}
use Rattle.tile_model.specs.Tessellations.{TileKind}
use Rattle.tile_model.specs.Validity.{IsValid}
use Rattle.tree_model.specs.declared.Rule.TheVariants.{Parent, Child}
use Rattle.tree_model.specs.Automata.{TreeAutomaton, state_at, rule_at, side_count}
use Rattle.tree_model.specs.Conditions.{IsAccepted}
use Rattle.tree_model.specs.Names.{child_of, reached, IsNameBelow}
use Rattle.tree_model.proofs.Names.{reached_push, name_push, name_state}
use Rattle.merge_model.specs.Faces.{face_at}
use Rattle.merge_model.specs.Telling.{ComesFirst}
use Rattle.merge_laws.proofs.Copies.{face_child}
use Rattle.merge_laws.proofs.Paths.{same_goes_on}
use Rattle.rules_tools.specs.declared.pairs.Pair.{Pair}
use Rattle.rules_tools.specs.Joined.{Linked, here, there, AreLinks, AreFalling, set_count}
use Rattle.rules_tools.specs.Pairs.{no_pair, pair_at, path_at, AtMost, IsPairWithin, IsPair, IsEntry, ArePairs, ChildrenLinked, IsGoneThrough}
use Rattle.rules_tools.proofs.Joining.{linked_more, links_more}
use Rattle.rules_tools.proofs.Order.{first_pushed, first_side, first_empty}

-- entries with one more behind
module _ (queue : List Pair) (pair : Pair) (paths : List (List ℕ)) (path : List ℕ) (long : length paths ≡ length queue) where
  pub old_pair : (j : ℕ) → j < length queue → pair_at (queue ++ pair ∷ []) j ≡ pair_at queue j
  old_pair j lt = get_or_append_left queue (pair ∷ []) no_pair j lt

  pub old_path : (j : ℕ) → j < length queue → path_at (paths ++ path ∷ []) j ≡ path_at paths j
  old_path j lt = get_or_append_left paths (path ∷ []) [] j (omega (arith, lt, long))

  pub last_pair : pair_at (queue ++ pair ∷ []) (length queue) ≡ pair
  last_pair = get_or_push queue pair no_pair (length queue) refl

  pub last_path : path_at (paths ++ path ∷ []) (length queue) ≡ path
  last_path = get_or_push paths path [] (length queue) long

  within_more : (bound : List ℕ) (x y : ℕ) → IsPairWithin queue paths bound x y → IsPairWithin (queue ++ pair ∷ []) (paths ++ path ∷ []) bound x y
  within_more bound x y w = record {
    entry = w.entry;
    within = omega (arith, w.within, length_push queue pair);
    first = ap (λ (p : Pair). p.first) (old_pair w.entry w.within) ∙ w.first;
    second = ap (λ (p : Pair). p.second) (old_pair w.entry w.within) ∙ w.second;
    path = subst (λ p. AtMost p bound) (sym (old_path w.entry w.within)) w.path;
  }

  pub pairs_more : (x y : ℕ) → IsPair queue x y → IsPair (queue ++ pair ∷ []) x y
  pairs_more x y w = record {
    entry = w.entry;
    within = omega (arith, w.within, length_push queue pair);
    first = ap (λ (p : Pair). p.first) (old_pair w.entry w.within) ∙ w.first;
    second = ap (λ (p : Pair). p.second) (old_pair w.entry w.within) ∙ w.second;
  }

  new_pair : IsPair (queue ++ pair ∷ []) pair.first pair.second
  new_pair = record {
    entry = length queue;
    within = omega (arith, length_push queue pair);
    first = ap (λ (p : Pair). p.first) last_pair;
    second = ap (λ (p : Pair). p.second) last_pair;
  }

  pub new_linked : Linked (IsPair (queue ++ pair ∷ [])) pair.first pair.second
  new_linked = there pair.second new_pair (here refl)

  pub links_of_more : (above : List (Option ℕ)) → AreLinks (IsPair queue) above → AreLinks (IsPair (queue ++ pair ∷ [])) above
  links_of_more above links = links_more (IsPair queue) (IsPair (queue ++ pair ∷ [])) pairs_more above links

module _ (kinds : List TileKind) (a : TreeAutomaton) (ok : IsAccepted kinds a) (s t : ℕ) (ls : s < length a.states) (lt : t < length a.states) where
  abbrev pub Through : List (Option ℕ) → List Pair → ℕ → ℕ → Type 0
  Through above queue next side = IsGoneThrough kinds a s t above queue next side

  -- a child that a rule names
  pub child_within : (u i c : ℕ) → slice_index_or (state_at a u).rules i Parent ≡ Child c → i < length (state_at a u).rules
  child_within u i c e = go (cases_lt i (length (state_at a u).rules))
    where
      go : (i < length (state_at a u).rules) ⊎ (length (state_at a u).rules ≤ i) → i < length (state_at a u).rules
      go (inl less) = less
      go (inr more) = let past = get_or_past (state_at a u).rules i Parent more in absurd (cc (past, e))

  pub child_side : (u i c : ℕ) → u < length a.states → slice_index_or (state_at a u).rules i Parent ≡ Child c → i < side_count kinds a u
  child_side u i c lu e = subst (λ n. i < n) (ok.c1.tables u lu).rules (child_within u i c e)

  pub child_rule : (u i c : ℕ) → slice_index_or (state_at a u).rules i Parent ≡ Child c → rule_at a u i ≡ Child c
  unfolding rule_at
  child_rule u i c e = e

  pub rule_child : (u i c : ℕ) → rule_at a u i ≡ Child c → slice_index_or (state_at a u).rules i Parent ≡ Child c
  unfolding rule_at
  rule_child u i c e = e

  pub child_state : (u i c : ℕ) → u < length a.states → slice_index_or (state_at a u).rules i Parent ≡ Child c → c < length a.states
  child_state u i c lu e = (ok.c1.targets u lu).child i c (child_side u i c lu e) (child_rule u i c e)

  pub sides_most : IsValid kinds → (u : ℕ) → u < length a.states → side_count kinds a u ≤ 64
  unfolding side_count
  sides_most valid u lu = (valid.sides (state_at a u).kind (ok.c1.tables u lu).kind).1

  -- of states of one face both have a child, or none has
  pub no_child : (u v i : ℕ) → face_at a u ≡ face_at a v → ((c d : ℕ) → slice_index_or (state_at a u).rules i Parent ≡ Child c → slice_index_or (state_at a v).rules i Parent ≡ Child d → ⊥) → (c : ℕ) → rule_at a u i ≡ Child c → ⊥
  no_child u v i face none c e =
      let e' = face_child kinds a u v face i (e ∙ ap (λ r. Child (child_of r)) (sym e)) in
      none c (child_of (rule_at a v i)) (rule_child u i c e) (rule_child v i (child_of (rule_at a v i)) e')

  -- nothing was gone through
  pub begun : (above : List (Option ℕ)) (pair : Pair) → pair.first ≡ s → pair.second ≡ t → length above ≡ length a.states → AreFalling above → AreLinks (IsPair (pair ∷ [])) above → set_count above ≤ length a.states → pair.side < 64 → Through above (pair ∷ []) 0 0
  begun above pair first second long falling links few small = record {
    paths = [] ∷ [];
    pairs = record {
      long = refl;
      some = omega arith;
      start = refl;
      start_first = first;
      start_second = second;
      each = λ j less. each j (omega (arith, less));
      ordered = λ i j less within. absurd (omega (arith, less, within));
    };
    long = long;
    falling = falling;
    links = links;
    balance = omega (arith, few);
    small = λ j less. small_at j (omega (arith, less));
    faces = λ j less. absurd (omega (arith, less));
    passed = λ j i less. absurd (omega (arith, less));
    passing = λ i less. absurd (omega (arith, less));
    before = λ j some less. absurd (omega (arith, some, less));
  }
    where
      each : (j : ℕ) → j ≡ 0 → IsEntry kinds a s t (pair ∷ []) ([] ∷ []) j
      each zero e = record { first_below = tt; second_below = tt; first = sym first; second = sym second; step = inl refl }
      each (suc j) e = absurd (omega (arith, e))

      small_at : (j : ℕ) → j ≡ 0 → (pair_at (pair ∷ []) j).side < 64
      small_at zero e = small
      small_at (suc j) e = absurd (omega (arith, e))

  module _ (above : List (Option ℕ)) (queue : List Pair) (next side : ℕ) (h : Through above queue next side) where
    -- the states of a pair
    pub first_state : (j : ℕ) → j < length queue → (pair_at queue j).first < length a.states
    first_state j less =
        let e = h.pairs.each j less in
        subst (λ x. x < length a.states) e.first (name_state kinds a ok.c1 s (path_at h.paths j) ls e.first_below)

    pub second_state : (j : ℕ) → j < length queue → (pair_at queue j).second < length a.states
    second_state j less =
        let e = h.pairs.each j less in
        subst (λ x. x < length a.states) e.second (name_state kinds a ok.c1 t (path_at h.paths j) lt e.second_below)

    pub queue_few : length queue ≤ suc (length a.states)
    queue_few = omega (arith, h.balance)

    abbrev now : List ℕ
    now = path_at h.paths next ++ side ∷ []

    -- all pairs have paths before that of the side which comes next
    all_before : next < length queue → (j : ℕ) → j < length queue → ComesFirst (path_at h.paths j) now
    all_before within j less = go (cases_eq j 0)
      where
        from_entry : 0 < j → ((j ≡ 0) ⊎ (((pair_at queue j).from < j) × (path_at h.paths j ≡ path_at h.paths (pair_at queue j).from ++ (pair_at queue j).side ∷ []))) → ((pair_at queue j).from < next) ⊎ (((pair_at queue j).from ≡ next) × ((pair_at queue j).side < side)) → ComesFirst (path_at h.paths j) now
        from_entry some (inl z) _ = absurd (omega (arith, some, z))
        from_entry some (inr (_, e)) (inl low) =
            subst (λ p. ComesFirst p now) (sym e)
            (first_pushed (path_at h.paths (pair_at queue j).from) (path_at h.paths next) (pair_at queue j).side side (h.pairs.ordered (pair_at queue j).from next low within))
        from_entry some (inr (_, e)) (inr (same, low)) =
            subst (λ p. ComesFirst p now) (sym e)
            (subst (λ n. ComesFirst (path_at h.paths n ++ (pair_at queue j).side ∷ []) now) (sym same) (first_side (path_at h.paths next) (pair_at queue j).side side low))

        go : (j ≡ 0) ⊎ (j ≢ 0) → ComesFirst (path_at h.paths j) now
        go (inl z) = subst (λ p. ComesFirst p now) (sym (ap (path_at h.paths) z ∙ h.pairs.start)) (first_empty (path_at h.paths next) side)
        go (inr some) =
            let more : 0 < j = omega (arith, some) in
            from_entry more (h.pairs.each j less).step (h.before j more less)

    pairs_within : next < length queue → (x y : ℕ) → IsPair queue x y → IsPairWithin queue h.paths now x y
    pairs_within within x y p = record {
      entry = p.entry;
      within = p.within;
      first = p.first;
      second = p.second;
      path = inr (all_before within p.entry p.within);
    }

    before_later : (j : ℕ) → 0 < j → j < length queue → ((pair_at queue j).from < next) ⊎ (((pair_at queue j).from ≡ next) × ((pair_at queue j).side < side + 1))
    before_later j some less = go (h.before j some less)
      where
        go : ((pair_at queue j).from < next) ⊎ (((pair_at queue j).from ≡ next) × ((pair_at queue j).side < side)) → ((pair_at queue j).from < next) ⊎ (((pair_at queue j).from ≡ next) × ((pair_at queue j).side < side + 1))
        go (inl low) = inl low
        go (inr (same, low)) = inr (same, omega (arith, low))

    side_more : ChildrenLinked kinds a s t queue h.paths next side → (i : ℕ) → i < side + 1 → ChildrenLinked kinds a s t queue h.paths next i
    side_more last i less = go (cases_eq i side)
      where
        go : (i ≡ side) ⊎ (i ≢ side) → ChildrenLinked kinds a s t queue h.paths next i
        go (inl e) = subst (ChildrenLinked kinds a s t queue h.paths next) (sym e) last
        go (inr d) = h.passing i (omega (arith, less, d))

    -- one side more, where no pair is put behind the queue
    pub side_passed : (above' : List (Option ℕ)) → length above' ≡ length above → AreFalling above' → AreLinks (IsPair queue) above' → set_count above' ≡ set_count above → ChildrenLinked kinds a s t queue h.paths next side → Through above' queue next (side + 1)
    side_passed above' long falling links count last = record {
      paths = h.paths;
      pairs = h.pairs;
      long = long ∙ h.long;
      falling = falling;
      links = links;
      balance = omega (arith, count, h.balance);
      small = h.small;
      faces = h.faces;
      passed = h.passed;
      passing = side_more last;
      before = before_later;
    }

    -- the side is no Child
    pub side_without : ((c : ℕ) → side < side_count kinds a (pair_at queue next).first → rule_at a (pair_at queue next).first side ≡ Child c → ⊥) → Through above queue next (side + 1)
    side_without none =
        side_passed above refl h.falling h.links refl
        (λ low rule. absurd (none (child_of (rule_at a (pair_at queue next).first side)) low rule))

    -- the children were in one set
    pub side_linked : next < length queue → (x y : ℕ) → rule_at a (pair_at queue next).first side ≡ Child x → rule_at a (pair_at queue next).second side ≡ Child y → (above' : List (Option ℕ)) → length above' ≡ length above → AreFalling above' → AreLinks (IsPair queue) above' → set_count above' ≡ set_count above → Linked (IsPair queue) x y → Through above' queue next (side + 1)
    side_linked within x y rx ry above' long falling links count l =
        side_passed above' long falling links count
        (λ low rule.
        subst (λ u. Linked (IsPairWithin queue h.paths now) u (child_of (rule_at a (pair_at queue next).second side))) (sym (ap child_of rx))
        (subst (λ v. Linked (IsPairWithin queue h.paths now) x v) (sym (ap child_of ry))
        (linked_more (IsPair queue) (IsPairWithin queue h.paths now) (pairs_within within) x y l)))

    -- all sides of the entry
    pub entry_passed : face_at a (pair_at queue next).first ≡ face_at a (pair_at queue next).second → side_count kinds a (pair_at queue next).first ≤ side → Through above queue (next + 1) 0
    entry_passed face all = record {
      paths = h.paths;
      pairs = h.pairs;
      long = h.long;
      falling = h.falling;
      links = h.links;
      balance = h.balance;
      small = h.small;
      faces = λ j less. faces j less (cases_eq j next);
      passed = λ j i less. passed j i less (cases_eq j next);
      passing = λ i less. absurd (omega (arith, less));
      before = λ j some less. before j some less (h.before j some less);
    }
      where
        faces : (j : ℕ) → j < next + 1 → (j ≡ next) ⊎ (j ≢ next) → face_at a (pair_at queue j).first ≡ face_at a (pair_at queue j).second
        faces j less (inl e) = subst (λ n. face_at a (pair_at queue n).first ≡ face_at a (pair_at queue n).second) (sym e) face
        faces j less (inr d) = h.faces j (omega (arith, less, d))

        passed : (j i : ℕ) → j < next + 1 → (j ≡ next) ⊎ (j ≢ next) → ChildrenLinked kinds a s t queue h.paths j i
        passed j i less (inl e) = subst (λ n. ChildrenLinked kinds a s t queue h.paths n i) (sym e) (λ low. h.passing i (omega (arith, low, all)) low)
        passed j i less (inr d) = h.passed j i (omega (arith, less, d))

        before : (j : ℕ) → 0 < j → j < length queue → ((pair_at queue j).from < next) ⊎ (((pair_at queue j).from ≡ next) × ((pair_at queue j).side < side)) → ((pair_at queue j).from < next + 1) ⊎ (((pair_at queue j).from ≡ next + 1) × ((pair_at queue j).side < 0))
        before j some less (inl low) = inl (omega (arith, low))
        before j some less (inr (same, _)) = inl (omega (arith, same))

    -- a pair more, of children that were in two sets
    module _ (within : next < length queue) (face : face_at a (pair_at queue next).first ≡ face_at a (pair_at queue next).second) (pair : Pair) (from : pair.from ≡ next) (at : pair.side ≡ side) (few : side < 64) (low : side < side_count kinds a (pair_at queue next).first) (rx : rule_at a (pair_at queue next).first side ≡ Child pair.first) (ry : rule_at a (pair_at queue next).second side ≡ Child pair.second) where
      abbrev queue' : List Pair
      queue' = queue ++ pair ∷ []

      abbrev paths' : List (List ℕ)
      paths' = h.paths ++ now ∷ []

      pair_old : (j : ℕ) → j < length queue → pair_at queue' j ≡ pair_at queue j
      pair_old j less = old_pair queue pair h.paths now h.pairs.long j less

      path_old : (j : ℕ) → j < length queue → path_at paths' j ≡ path_at h.paths j
      path_old j less = old_path queue pair h.paths now h.pairs.long j less

      one_longer : length queue' ≡ length queue + 1
      one_longer = length_push queue pair

      old_entry : (j : ℕ) → j < length queue → IsEntry kinds a s t queue' paths' j
      old_entry j less =
          let e = h.pairs.each j less in
          record {
            first_below = subst (IsNameBelow kinds a s) (sym (path_old j less)) e.first_below;
            second_below = subst (IsNameBelow kinds a t) (sym (path_old j less)) e.second_below;
            first = ap (reached a s) (path_old j less) ∙ e.first ∙ sym (ap (λ (p : Pair). p.first) (pair_old j less));
            second = ap (reached a t) (path_old j less) ∙ e.second ∙ sym (ap (λ (p : Pair). p.second) (pair_old j less));
            step = step e.step;
          }
        where
          step : (j ≡ 0) ⊎ (((pair_at queue j).from < j) × (path_at h.paths j ≡ path_at h.paths (pair_at queue j).from ++ (pair_at queue j).side ∷ [])) → (j ≡ 0) ⊎ (((pair_at queue' j).from < j) × (path_at paths' j ≡ path_at paths' (pair_at queue' j).from ++ (pair_at queue' j).side ∷ []))
          step (inl z) = inl z
          step (inr (lower, e)) =
              let low_pair : (pair_at queue j).from < length queue = omega (arith, lower, less) in
              inr (
                subst (λ (p : Pair). p.from < j) (sym (pair_old j less)) lower,
                path_old j less ∙ e ∙ ap (λ p. p ++ (pair_at queue j).side ∷ []) (sym (path_old (pair_at queue j).from low_pair))
                    ∙ ap (λ (p : Pair). path_at paths' p.from ++ p.side ∷ []) (sym (pair_old j less)),
              )

      pair_last : pair_at queue' (length queue) ≡ pair
      pair_last = last_pair queue pair h.paths now h.pairs.long

      path_last : path_at paths' (length queue) ≡ now
      path_last = last_path queue pair h.paths now h.pairs.long

      new_entry : IsEntry kinds a s t queue' paths' (length queue)
      new_entry =
          let e = h.pairs.each next within in
          let g = same_goes_on kinds a (pair_at queue next).first (pair_at queue next).second side face (low, rx ∙ ap (λ r. Child (child_of r)) (sym rx)) in
          record {
            first_below = subst (IsNameBelow kinds a s) (sym path_last) (name_push kinds a s (path_at h.paths next) side e.first_below (subst (λ x. side < side_count kinds a x) (sym e.first) low) (subst (λ x. rule_at a x side ≡ Child (child_of (rule_at a x side))) (sym e.first) (rx ∙ ap (λ r. Child (child_of r)) (sym rx))));
            second_below = subst (IsNameBelow kinds a t) (sym path_last) (name_push kinds a t (path_at h.paths next) side e.second_below (subst (λ x. side < side_count kinds a x) (sym e.second) g.0) (subst (λ x. rule_at a x side ≡ Child (child_of (rule_at a x side))) (sym e.second) g.1));
            first = ap (reached a s) path_last ∙ reached_push kinds a s (path_at h.paths next) side ∙ ap (λ x. child_of (rule_at a x side)) e.first ∙ ap child_of rx ∙ sym (ap (λ (p : Pair). p.first) pair_last);
            second = ap (reached a t) path_last ∙ reached_push kinds a t (path_at h.paths next) side ∙ ap (λ x. child_of (rule_at a x side)) e.second ∙ ap child_of ry ∙ sym (ap (λ (p : Pair). p.second) pair_last);
            step = inr (
              subst (λ (p : Pair). p.from < length queue) (sym pair_last) (subst (λ n. n < length queue) (sym from) within),
              path_last ∙ ap (λ p. p ++ side ∷ []) (sym (path_old next within))
                  ∙ ap (λ n. path_at paths' n ++ side ∷ []) (sym from) ∙ ap (λ n. path_at paths' pair.from ++ n ∷ []) (sym at)
                  ∙ ap (λ (p : Pair). path_at paths' p.from ++ p.side ∷ []) (sym pair_last),
            );
          }

      more_pairs : ArePairs kinds a s t queue' paths'
      more_pairs = record {
        long = length_push h.paths now ∙ omega (arith, h.pairs.long, one_longer);
        some = omega (arith, one_longer);
        start = path_old 0 h.pairs.some ∙ h.pairs.start;
        start_first = ap (λ (p : Pair). p.first) (pair_old 0 h.pairs.some) ∙ h.pairs.start_first;
        start_second = ap (λ (p : Pair). p.second) (pair_old 0 h.pairs.some) ∙ h.pairs.start_second;
        each = λ j less. each j less (cases_eq j (length queue));
        ordered = λ i j lower less. ordered i j lower less (cases_eq j (length queue));
      }
        where
          each : (j : ℕ) → j < length queue' → (j ≡ length queue) ⊎ (j ≢ length queue) → IsEntry kinds a s t queue' paths' j
          each j less (inl e) = subst (IsEntry kinds a s t queue' paths') (sym e) new_entry
          each j less (inr d) = old_entry j (omega (arith, less, d, one_longer))

          ordered : (i j : ℕ) → i < j → j < length queue' → (j ≡ length queue) ⊎ (j ≢ length queue) → ComesFirst (path_at paths' i) (path_at paths' j)
          ordered i j lower less (inl e) =
              let i_old : i < length queue = omega (arith, lower, e) in
              subst (λ p. ComesFirst (path_at paths' i) p) (sym (ap (path_at paths') e ∙ path_last))
              (subst (λ p. ComesFirst p now) (sym (path_old i i_old)) (all_before within i i_old))
          ordered i j lower less (inr d) =
              let j_old : j < length queue = omega (arith, less, d, one_longer) in
              let i_old : i < length queue = omega (arith, lower, j_old) in
              subst (λ p. ComesFirst (path_at paths' i) p) (sym (path_old j j_old))
              (subst (λ p. ComesFirst p (path_at h.paths j)) (sym (path_old i i_old)) (h.pairs.ordered i j lower j_old))

      -- what is linked stays linked
      kept : (j i : ℕ) → j < length queue → ChildrenLinked kinds a s t queue h.paths j i → ChildrenLinked kinds a s t queue' paths' j i
      kept j i less old =
          subst (λ (p : Pair). i < side_count kinds a p.first → rule_at a p.first i ≡ Child (child_of (rule_at a p.first i)) → Linked (IsPairWithin queue' paths' (path_at paths' j ++ i ∷ [])) (child_of (rule_at a p.first i)) (child_of (rule_at a p.second i))) (sym (pair_old j less))
          (λ low rule.
          subst (λ b. Linked (IsPairWithin queue' paths' (b ++ i ∷ [])) (child_of (rule_at a (pair_at queue j).first i)) (child_of (rule_at a (pair_at queue j).second i))) (sym (path_old j less))
          (linked_more (IsPairWithin queue h.paths (path_at h.paths j ++ i ∷ [])) (IsPairWithin queue' paths' (path_at h.paths j ++ i ∷ []))
          (within_more queue pair h.paths now h.pairs.long (path_at h.paths j ++ i ∷ [])) (child_of (rule_at a (pair_at queue j).first i)) (child_of (rule_at a (pair_at queue j).second i)) (old low rule)))

      new_within : IsPairWithin queue' paths' now pair.first pair.second
      new_within = record {
        entry = length queue;
        within = omega (arith, one_longer);
        first = ap (λ (p : Pair). p.first) pair_last;
        second = ap (λ (p : Pair). p.second) pair_last;
        path = inl path_last;
      }

      new_children : ChildrenLinked kinds a s t queue' paths' next side
      new_children =
          subst (λ (p : Pair). side < side_count kinds a p.first → rule_at a p.first side ≡ Child (child_of (rule_at a p.first side)) → Linked (IsPairWithin queue' paths' (path_at paths' next ++ side ∷ [])) (child_of (rule_at a p.first side)) (child_of (rule_at a p.second side))) (sym (pair_old next within))
          (λ low' rule.
          subst (λ b. Linked (IsPairWithin queue' paths' (b ++ side ∷ [])) (child_of (rule_at a (pair_at queue next).first side)) (child_of (rule_at a (pair_at queue next).second side))) (sym (path_old next within))
          (subst (λ u. Linked (IsPairWithin queue' paths' now) u (child_of (rule_at a (pair_at queue next).second side))) (sym (ap child_of rx))
          (subst (λ v. Linked (IsPairWithin queue' paths' now) pair.first v) (sym (ap child_of ry)) (there pair.second new_within (here refl)))))

      pub pair_pushed : (above' : List (Option ℕ)) → length above' ≡ length above → AreFalling above' → AreLinks (IsPair queue') above' → set_count above' + 1 ≡ set_count above → Through above' queue' next (side + 1)
      pair_pushed above' long falling links count = record {
        paths = paths';
        pairs = more_pairs;
        long = long ∙ h.long;
        falling = falling;
        links = links;
        balance = omega (arith, count, h.balance, one_longer);
        small = λ j less. small_at j less (cases_eq j (length queue));
        faces = λ j less.
            subst (λ (p : Pair). face_at a p.first ≡ face_at a p.second) (sym (pair_old j (omega (arith, less, within)))) (h.faces j less);
        passed = λ j i less. kept j i (omega (arith, less, within)) (h.passed j i less);
        passing = λ i less. passing i less (cases_eq i side);
        before = λ j some less. before j some less (cases_eq j (length queue));
      }
        where
          small_at : (j : ℕ) → j < length queue' → (j ≡ length queue) ⊎ (j ≢ length queue) → (pair_at queue' j).side < 64
          small_at j less (inl e) = subst (λ n. n < 64) (sym (ap (λ (p : Pair). p.side) (ap (pair_at queue') e ∙ pair_last) ∙ at)) few
          small_at j less (inr d) =
              let j_old : j < length queue = omega (arith, less, d, one_longer) in
              subst (λ (p : Pair). p.side < 64) (sym (pair_old j j_old)) (h.small j j_old)

          passing : (i : ℕ) → i < side + 1 → (i ≡ side) ⊎ (i ≢ side) → ChildrenLinked kinds a s t queue' paths' next i
          passing i less (inl e) = subst (ChildrenLinked kinds a s t queue' paths' next) (sym e) new_children
          passing i less (inr d) = kept next i within (h.passing i (omega (arith, less, d)))

          before : (j : ℕ) → 0 < j → j < length queue' → (j ≡ length queue) ⊎ (j ≢ length queue) → ((pair_at queue' j).from < next) ⊎ (((pair_at queue' j).from ≡ next) × ((pair_at queue' j).side < side + 1))
          before j some less (inl e) =
              let is : pair_at queue' j ≡ pair = ap (pair_at queue') e ∙ pair_last in
              inr (ap (λ (p : Pair). p.from) is ∙ from, subst (λ n. n < side + 1) (sym (ap (λ (p : Pair). p.side) is ∙ at)) (omega arith))
          before j some less (inr d) =
              let j_old : j < length queue = omega (arith, less, d, one_longer) in
              subst (λ (p : Pair). (p.from < next) ⊎ ((p.from ≡ next) × (p.side < side + 1))) (sym (pair_old j j_old)) (before_later j some j_old)
