-- `write_scramble`: all is known before the first byte is stored.
use Rattle.generic_cube.proofs.AnswerLaws.{done_number}
use Rattle.scramble_writer.proofs.WriteLaws.{write_fits, write_done}
use Rattle.scramble_writer.proofs.write_scramble.Goals as goal

pub put_text-requires : goal.put_text-requires
put_text-requires c = (write_fits _ _ _ (done_number _ c.in_ok-check_write.ensures)).fits

pub returns : goal.returns
returns c = write_done _ _ (done_number _ c.in_ok-check_write.ensures) c.put_text.ensures
