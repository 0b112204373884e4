-- What comparisons have found.
use Rattle.std.specs.Prelude.{ℕ, List, Option, nat_eq}
use lib.Pointwise.{pointwise}
use Rattle.indexmap.specs.IndexMap.{get_by, index_map_len}
use Rattle.indexmap.specs.IndexSet.{index_set_len}
use Rattle.cell_patches.specs.declared.dart.PatchDart.{PatchDart}
use Rattle.std.specs.Option.{option_map}
use Rattle.cone_questions.specs.declared.comparing.Comparison.{Comparison}
use Rattle.cone_questions.specs.declared.questions.Questions.{Questions}
use Rattle.cone_questions.specs.declared.comparing.Found.{Found}
use Rattle.cone_questions.specs.declared.comparing.Found.TheVariants.{New}

-- how many cone types were split
abbrev pub split_count : Comparison → ℕ
split_count c = index_set_len c.split

-- the cell that is noted for a root and the sides behind it
abbrev pub cell_at : Comparison → List ℕ → Option PatchDart
cell_at c word =
    option_map (λ come. come.cell) (get_by (λ key. pointwise nat_eq word key.items) c.cells)

-- how many cone types were split by a comparison
abbrev pub splits : Found → ℕ
splits (New _) = 1
splits _ = 0

-- how many experiments there are
abbrev pub experiment_count : Questions → ℕ
experiment_count q = index_map_len q.experiments
