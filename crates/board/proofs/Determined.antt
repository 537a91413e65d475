-- How far each contract reaches: two results that meet it are equal.
use mathlib.Core.Path.{◌≡◌, sym, ◌∙◌}
use mathlib.Core.List.{List}
use Prim.Native.Nat.{ℕ}
use Rattle.sheet.specs.declared.Reading.{Reading}
use Rattle.board.specs.declared.State.{State}
use Rattle.board.specs.declared.Started.{Started}
use Rattle.board.specs.declared.Released.{Released}
use Rattle.board.specs.declared.Ticked.{Ticked}
use Rattle.board.specs.Calls.{start_reading, start_of, release_of, tick_of}

pub start_determined : (sheet : List ℕ) (a b : Started) → a ≡ start_of sheet → b ≡ start_of sheet → a ≡ b
start_determined sheet a b p q = p ∙ sym q

pub start_reading_determined : (reading : Reading) (a b : Started) → a ≡ start_reading reading → b ≡ start_reading reading → a ≡ b
start_reading_determined reading a b p q = p ∙ sym q

pub release_determined : (s : State) (i : ℕ) (a b : Released) → a ≡ release_of s i → b ≡ release_of s i → a ≡ b
release_determined s i a b p q = p ∙ sym q

pub tick_determined : (s : State) (a b : Ticked) → a ≡ tick_of s → b ≡ tick_of s → a ≡ b
tick_determined s a b p q = p ∙ sym q
