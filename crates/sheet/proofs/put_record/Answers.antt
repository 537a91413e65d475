use Rattle.sheet.specs.Writing as spec
use Rattle.sheet.proofs.WritingLaws as laws
use Rattle.sheet.proofs.put_record.Goals as goal

pub returns : goal.returns
returns c = rw (c.put_word-4.ensures, c.put_word-3.ensures, c.put_word-2.ensures, c.put_word.ensures)
    (laws.sets_whole (spec.record_bytes c.args.row) c.args.out.now c.requires)
