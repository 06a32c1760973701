-- The rules' cases for every station that are to be proved, together, as a single statement over the definitions.
use Rattle.std.specs.Prelude.{◌≡◌, [], ◌∷◌, Ok, Err}
use Rattle.ground.specs.Refusals.{refusal}
use Rattle.generic_cube.specs.Answers.{answer}
use Rattle.generic_cube.specs.Code.{move, code_of}
use Rattle.generic_cube.specs.StickerIndex.{sticker_refusal, sticker_index}
use Rattle.move_lists.specs.Lists.{simplify}
use Rattle.scramble_parser.specs.Parse.{refused_at, parse_answer}
use Rattle.geometric_moves.specs.Turn.{run}

pub record Cases : Type 0 where
  -- codes R2 14, Uw 153, 10Dw 685
  pub r2 : code_of (move 3 0 2) ≡ 14
  pub uw : code_of (move 6 2 1) ≡ 153
  pub dw10 : code_of (move 11 10 1) ≡ 685
  -- size 1, `U` turns URFDLB into UBRDFL
  pub size_1 : run 1 (1 ∷ []) (85 ∷ 82 ∷ 70 ∷ 68 ∷ 76 ∷ 66 ∷ []) ≡ 85 ∷ 66 ∷ 82 ∷ 68 ∷ 70 ∷ 76 ∷ []
  -- sticker index size 3, F, 1 is 18; index 10 is refused (10)
  pub f_1 : answer (sticker_refusal 3 70 1) (sticker_index 3 70 1) ≡ Ok 18
  pub f_10 : answer (sticker_refusal 3 70 10) (sticker_index 3 70 10) ≡ Err (refusal 10)
  -- simplify U U to U2; R U U' R to R2; U D U' and 2Uw 3Uw (n=4) unchanged
  pub u_u : simplify (1 ∷ 1 ∷ []) ≡ 2 ∷ []
  pub r_u_u'_r : simplify (13 ∷ 1 ∷ 3 ∷ 13 ∷ []) ≡ 14 ∷ []
  pub u_d_u' : simplify (1 ∷ 21 ∷ 3 ∷ []) ≡ 1 ∷ 21 ∷ 3 ∷ []
  pub uw_2_3 : simplify (153 ∷ 217 ∷ []) ≡ 153 ∷ 217 ∷ []
  -- n=4: `4Uw` is 5, `02Uw` is 13; n=2: `Uw` is 5; empty text gives an empty list; the room for a move changes none of these
  pub width_4 : parse_answer 4 (52 ∷ 85 ∷ 119 ∷ []) 1 ≡ refused_at 5 0
  pub zero_first_lem : parse_answer 4 (48 ∷ 50 ∷ 85 ∷ 119 ∷ []) 1 ≡ refused_at 13 0
  pub uw_on_2 : parse_answer 2 (85 ∷ 119 ∷ []) 1 ≡ refused_at 5 0
  pub empty : parse_answer 3 [] 0 ≡ Ok 0
  -- `R 2R` is 14 at 4
  pub no_w_lem : parse_answer 3 (82 ∷ 32 ∷ 50 ∷ 82 ∷ []) 2 ≡ refused_at 14 4
