-- What the definitions say of the example texts, by computing them.
use mathlib.Core.Path.{refl}
use Rattle.laws.specs.Choice.{first_of}
use Rattle.laws.specs.Search.{first_from}
use Rattle.laws.specs.Tabulate.{tab_from}
use Rattle.sheet.specs.Layout.{word_at, row_of, row_at}
use Rattle.sheet.specs.Ranges.{count_fault, row_fault, first_fault, set_row_fault, set_refusal}
use Rattle.sheet.specs.Reading.{header_fault, record_fault, read_refusal, set_of, read_sheet}
use Rattle.sheet.specs.Writing.{sheet_of, write_refusal, written}
use Rattle.text.specs.Decimal.{decimal_in, decimal}
use Rattle.text.specs.Lines.{lines_to}
use Rattle.text.specs.Refusing.{refused_line}
use Rattle.sheet_text.specs.Words.{bytes_before, lines_of, same_bytes, all_digits, value_from, number_fault, number_said, field_said}
use Rattle.sheet_text.specs.Meaning.{worded, numbers_fault, left_after, value_at, numbers_said, first_line_said, row_numbers, row_said, rows_fault, rows_meant, page_meant, meaning_of}
use Rattle.sheet_text.specs.Composing.{compose_answer, composed, reason, answer_line}
use Rattle.sheet_text.specs.Listing.{first_text, row_text, listing, listed}
use Rattle.sheet_text.specs.Examples.{Said}

pub said : Said
unfolding
    bytes_before lines_of same_bytes all_digits value_from number_fault number_said field_said worded numbers_fault left_after value_at numbers_said
    first_line_said row_numbers row_said rows_fault rows_meant page_meant meaning_of compose_answer composed reason answer_line first_text
    row_text listing listed lines_to refused_line decimal decimal_in sheet_of write_refusal written set_refusal set_row_fault row_fault
    count_fault first_fault first_from first_of tab_from read_sheet set_of read_refusal header_fault record_fault row_at row_of word_at
said =
    record {
      A = refl;
      other_a = refl;
      listed_a = refl;
      nothing = refl;
      number = refl;
      large = refl;
      few = refl;
      many = refl;
      range = refl;
    }
