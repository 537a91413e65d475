use Rattle.std.specs.Prelude.{◌≡◌}
use Rattle.std.proofs.Common.{◌∙◌}
use Rattle.sheet.specs.Writing.{word_bytes}
use Rattle.sheet.proofs.WritingLaws as laws
use Rattle.sheet.proofs.put_word.Goals as goal

pub returns : goal.returns
returns c =
    let e : c.copy_from_slice.new.self ≡ word_bytes c.args.x = c.copy_from_slice.ensures.after ∙ c.to_be_bytes.ensures in
    rw e (laws.sets_mid (word_bytes c.args.x) c.args.out.now c.args.at c.requires)
