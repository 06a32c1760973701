-- The rules' cases, each by computing.
use mathlib.Core.Path.{refl}
use Rattle.ground.specs.Choice.{between, position, any}
use Rattle.ground.specs.Lists.{tabulate}
use Rattle.ground.specs.Refusals.{lowest}
use Rattle.generic_cube.specs.Sizes.{sized}
use Rattle.generic_cube.specs.Code.{code_of, move_of, turned_to, outside, joins}
use Rattle.generic_cube.specs.StickerIndex.{sticker_refusal, sticker_index}
use Rattle.move_lists.specs.Lists.{push, simplify}
use Rattle.tokens.specs.Token.{digit_of, is_digit, digits_of, number_of, token_width, letter_of, is_wide_token, plain_kind, mark_of, suffix_at, token_move, bad_digits, no_letter, no_w, bytes_left, bad_token_width, unless_fault, read_behind, read_token}
use Rattle.tokens.specs.Words.{is_space, is_sign, ends_word, word_bytes, words}
use Rattle.scramble_parser.specs.Parse.{reading, read_answer}
use Rattle.geometric_moves.specs.Turn.{same_face, whither, inverse_rot, turn_of, quarter_of, kind_face, layers_of, takes, target, source, moved, run}
use Rattle.theorems.specs.Cases.{Cases}

pub cases : Cases
unfolding between position any tabulate lowest sized code_of move_of turned_to outside joins sticker_refusal sticker_index same_face whither inverse_rot turn_of quarter_of kind_face layers_of takes target source moved run digit_of is_digit digits_of number_of token_width letter_of is_wide_token plain_kind mark_of suffix_at token_move bad_digits no_letter no_w bytes_left bad_token_width unless_fault read_behind read_token is_space is_sign ends_word word_bytes words reading read_answer push simplify
cases = record {
  r2 = refl;
  uw = refl;
  dw10 = refl;
  size_1 = refl;
  f_1 = refl;
  f_10 = refl;
  u_u = refl;
  r_u_u'_r = refl;
  u_d_u' = refl;
  uw_2_3 = refl;
  width_4 = refl;
  zero_first_lem = refl;
  uw_on_2 = refl;
  empty = refl;
  no_w_lem = refl;
}
