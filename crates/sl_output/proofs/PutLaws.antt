-- What a seat put, as it goes on.
use Rattle.sl_book.proofs.SeatLaws.{mine_on}
use Rattle.sl_book.specs.Seats.{IsMine}
use Rattle.sl_output.specs.Outputs.{HasPut}
use Rattle.sl_output.specs.Pieces.{SeatState}
use Rattle.std.proofs.Common.{List, [], refl, ℕ, ◌++◌, ◌∷◌}

-- it put one piece more
pub mine_put : (s s' : SeatState) (text : List ℕ) (texts : List (List ℕ)) → HasPut s s' text → IsMine s texts → IsMine s' (texts ++ text ∷ [])
mine_put s s' text texts put mine = mine_on s s' put.past (record { by = s.by; entry = text }) texts refl put.before put.front put.by put.count mine
