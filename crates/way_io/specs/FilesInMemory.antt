-- The state of the files in memory.
use Rattle.std.specs.Prelude.{ℕ, List, Option}
use Rattle.std.specs.Option.{option_map}
use Rattle.std.specs.BTreeMap.{get_by_text}
use Rattle.way_io.specs.Calls.{CallsMade}
use Rattle.way_io.specs.declared.mem_files.MemFiles.{MemFiles}

-- what each file holds
abbrev pub contents_of : MemFiles → List ℕ → Option (List ℕ)
contents_of files name = option_map (λ bytes. bytes.items) (get_by_text files.files name)

-- the fetches and stores so far, counted together
abbrev pub calls_of : MemFiles → CallsMade
calls_of files = files.calls

-- the fetches that failed
abbrev pub failed_fetches : MemFiles → ℕ
failed_fetches files = files.fetch_faults

-- the stores that failed
abbrev pub failed_stores : MemFiles → ℕ
failed_stores files = files.store_faults
