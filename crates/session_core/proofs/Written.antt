-- The tiles that have a text, by the texts that a session keeps.
use Rattle.std.proofs.Common.{◌≡◌, ℕ, List, length, refl, sym, ◌∙◌}
use Rattle.std.specs.Prelude.{nat_eq, Option, None, Some, IsSome, Contains}
use Rattle.std.specs.Cmp.Lexicographic.{pointwise}
use Rattle.std.specs.Map.{keys_of}
use Rattle.std.specs.Bool.{Decides}
use Rattle.std.proofs.lemmas.Bool.Decides.{Decides-eqb}
use Rattle.std.proofs.lemmas.Cmp.{nat_list_eq_equiv}
use Rattle.std.proofs.lemmas.Map.Entries.{length-keys_of}
use Rattle.std.proofs.lemmas.Map.Views.{Contains-keys_from_lookup, IsSome-lookup_from_Contains}
use Rattle.std.proofs.lemmas.Slice.Eq.{slice_eq-Decides}
use Rattle.tile_model.specs.declared.Letter.{Letter}
use Rattle.lazy_map.specs.Texts.{text_under, HasNoDoubles}
use Rattle.reply_model.specs.Histories.{History}
use Rattle.reply_model.specs.Readings.{Reading}
use Rattle.reply_model.specs.Texts.{IsBlank}
use Rattle.session_core.specs.Sessions.{SessionState, IsKept, HaveTexts, Stands}

same_names : (m n : List ℕ) → Decides (pointwise nat_eq m n) (m ≡ n)
same_names m n = slice_eq-Decides Decides-eqb m n (pointwise nat_eq m n) refl

module _ (r : Reading) (s : SessionState) (h : History) (stands : Stands r s h) where
  -- a name under which there is a text is among the keys, and there is one under each key
  key : (name : List ℕ) → IsSome (text_under s.texts name) → Contains (keys_of s.texts) name
  key name some = Contains-keys_from_lookup (λ m n. (same_names m n).0) name s.texts some

  kept : (name : List ℕ) → Contains (keys_of s.texts) name → IsSome (text_under s.texts name)
  kept name is = IsSome-lookup_from_Contains nat_list_eq_equiv name s.texts is

  -- where a text is kept, something was written, and where none is, nothing
  not_blank :
      (u : List Letter) (o : Option (List ℕ)) → IsKept r h u o → IsSome o → IsBlank r h u → ⊥
  not_blank u None k some blank = absurd (cc some)
  not_blank u (Some text) k some blank = blank k.before text k.written

  some_text :
      (u : List Letter) (o : Option (List ℕ)) → IsKept r h u o → (IsBlank r h u → ⊥) → IsSome o
  some_text u None k written = absurd (written k)
  some_text u (Some text) k written = refl

  pub have_texts : (n : ℕ) → n ≡ length s.texts → HasNoDoubles s.texts → HaveTexts r s.kind h n
  have_texts n count once = record {
    listed = keys_of s.texts;
    count = length-keys_of s.texts ∙ sym count;
    once = once;
    of_tiles = λ name is. stands.names name (kept name is);
    some =
        λ u p led is. not_blank u (text_under s.texts p.name) (stands.texts u p led) (kept p.name is);
    all =
        λ u p led written. key p.name
        (some_text u (text_under s.texts p.name) (stands.texts u p led) written);
  }
