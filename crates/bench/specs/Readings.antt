-- Many readings of one sheet. What comes out is a digest of what was read: each reading's refusal, N and n, and at the end all
-- rows of the last.
use Rattle.std.specs.Prelude.{ℕ, zero, suc, ◌%◌, List}
use Rattle.sheet.specs.declared.Row.{Row}
use Rattle.sheet.specs.declared.Set.{Set}
use Rattle.sheet.specs.declared.Refusal.{Refusal}
use Rattle.sheet.specs.declared.Reading.{Reading}
use Rattle.sheet.specs.Refusals.{carried}
use Rattle.sheet.specs.Ranges.{most_rows, row_in}
use Rattle.sheet.specs.Reading.{read_sheet}
use Rattle.bench.specs.Digest.{digests, mix}

unfoldable pub mix_refusal : ℕ → Refusal → ℕ
mix_refusal digest refusal = mix (mix (mix digest refusal.number) (refusal.row % digests)) refusal.instance

unfoldable pub mix_counts : ℕ → Set → ℕ
mix_counts digest set = mix (mix digest set.processors) (set.count % digests)

unfoldable pub mix_reading : ℕ → Reading → ℕ
mix_reading digest reading = mix_counts (mix_refusal digest (carried reading.refusal)) reading.set

unfoldable pub mix_row : ℕ → Row → ℕ
mix_row digest row =
    mix (mix (mix (mix (mix digest row.processor) row.memory) row.computation) row.period) row.deadline

-- The first rows.
unfoldable pub mix_rows : ℕ → Set → ℕ → ℕ
mix_rows digest set zero = digest
mix_rows digest set (suc i) = mix_row (mix_rows digest set i) (row_in set i)

-- The answers of a number of readings.
unfoldable pub readings : List ℕ → ℕ → ℕ
readings sheet zero = 0
readings sheet (suc k) = mix_reading (readings sheet k) (read_sheet sheet)

unfoldable pub readings_outcome : List ℕ → ℕ → ℕ
readings_outcome sheet calls = mix_rows (readings sheet calls) (read_sheet sheet).set most_rows
