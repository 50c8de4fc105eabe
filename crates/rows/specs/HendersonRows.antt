-- METHOD 2.5 and 2.6: the stored rows of Henderson's filters and their ends, laid out as those of MeanRows: the middle row of 9 terms over 2,431, of
-- 13 over 16,796, all other rows in millionths (the file Henderson has their rule). negsuc k is -(k + 1).
use Rattle.std.specs.Prelude.{List, [], ◌∷◌, ℤ, pos, negsuc}

-- 9 terms
abbrev pub rows_henderson9 : List ℤ
rows_henderson9 =
    pos 579723 ∷ pos 424292 ∷ pos 185356 ∷ negsuc 33834 ∷ negsuc 155535 ∷ pos 0 ∷ pos 0 ∷ pos 0 ∷ pos 0
    ∷ pos 297863 ∷ pos 354447 ∷ pos 281868 ∷ pos 125783 ∷ negsuc 10555 ∷ negsuc 49404 ∷ pos 0 ∷ pos 0 ∷ pos 0
    ∷ pos 85905 ∷ pos 242438 ∷ pos 315465 ∷ pos 259329 ∷ pos 119687 ∷ negsuc 208 ∷ negsuc 22614 ∷ pos 0 ∷ pos 0
    ∷ negsuc 29953 ∷ pos 102671 ∷ pos 255042 ∷ pos 323907 ∷ pos 263608 ∷ pos 119804 ∷ negsuc 4254 ∷ negsuc 30822 ∷ pos 0
    ∷ negsuc 98 ∷ negsuc 23 ∷ pos 288 ∷ pos 648 ∷ pos 805 ∷ pos 648 ∷ pos 288 ∷ negsuc 23 ∷ negsuc 98
    ∷ negsuc 30822 ∷ negsuc 4254 ∷ pos 119804 ∷ pos 263608 ∷ pos 323907 ∷ pos 255042 ∷ pos 102671 ∷ negsuc 29953 ∷ pos 0
    ∷ negsuc 22614 ∷ negsuc 208 ∷ pos 119687 ∷ pos 259329 ∷ pos 315465 ∷ pos 242438 ∷ pos 85905 ∷ pos 0 ∷ pos 0
    ∷ negsuc 49404 ∷ negsuc 10555 ∷ pos 125783 ∷ pos 281868 ∷ pos 354447 ∷ pos 297863 ∷ pos 0 ∷ pos 0 ∷ pos 0
    ∷ negsuc 155535 ∷ negsuc 33834 ∷ pos 185356 ∷ pos 424292 ∷ pos 579723 ∷ pos 0 ∷ pos 0 ∷ pos 0 ∷ pos 0 ∷ []

-- 13 terms
abbrev pub rows_henderson13 : List ℤ
rows_henderson13 =
    pos 421119 ∷ pos 353139 ∷ pos 243898 ∷ pos 119773 ∷ pos 12022 ∷ negsuc 58101 ∷ negsuc 91848 ∷ pos 0 ∷ pos 0 ∷ pos 0 ∷ pos 0 ∷ pos 0 ∷ pos 0
    ∷ pos 279099 ∷ pos 292233 ∷ pos 253923 ∷ pos 174355 ∷ pos 79902 ∷ pos 1822 ∷ negsuc 38629 ∷ negsuc 42703 ∷ pos 0 ∷ pos 0 ∷ pos 0 ∷ pos 0 ∷ pos 0
    ∷ pos 148101 ∷ pos 215403 ∷ pos 241446 ∷ pos 216046 ∷ pos 149387 ∷ pos 67844 ∷ pos 2674 ∷ negsuc 24867 ∷ negsuc 16032 ∷ pos 0 ∷ pos 0 ∷ pos 0 ∷ pos 0
    ∷ pos 44835 ∷ pos 130241 ∷ pos 200762 ∷ pos 230023 ∷ pos 207845 ∷ pos 144406 ∷ pos 66082 ∷ pos 4132 ∷ negsuc 20190 ∷ negsuc 8134 ∷ pos 0 ∷ pos 0 ∷ pos 0
    ∷ negsuc 16940 ∷ pos 51080 ∷ pos 135475 ∷ pos 204985 ∷ pos 233236 ∷ pos 210045 ∷ pos 145594 ∷ pos 66259 ∷ pos 3297 ∷ negsuc 22036 ∷ negsuc 10992 ∷ pos 0 ∷ pos 0
    ∷ negsuc 34008 ∷ negsuc 5320 ∷ pos 60995 ∷ pos 143684 ∷ pos 211488 ∷ pos 238034 ∷ pos 213136 ∷ pos 146980 ∷ pos 65939 ∷ pos 1272 ∷ negsuc 25767 ∷ negsuc 16429 ∷ pos 0
    ∷ negsuc 324 ∷ negsuc 467 ∷ pos 0 ∷ pos 1100 ∷ pos 2475 ∷ pos 3600 ∷ pos 4032 ∷ pos 3600 ∷ pos 2475 ∷ pos 1100 ∷ pos 0 ∷ negsuc 467 ∷ negsuc 324
    ∷ negsuc 16429 ∷ negsuc 25767 ∷ pos 1272 ∷ pos 65939 ∷ pos 146980 ∷ pos 213136 ∷ pos 238034 ∷ pos 211488 ∷ pos 143684 ∷ pos 60995 ∷ negsuc 5320 ∷ negsuc 34008 ∷ pos 0
    ∷ negsuc 10992 ∷ negsuc 22036 ∷ pos 3297 ∷ pos 66259 ∷ pos 145594 ∷ pos 210045 ∷ pos 233236 ∷ pos 204985 ∷ pos 135475 ∷ pos 51080 ∷ negsuc 16940 ∷ pos 0 ∷ pos 0
    ∷ negsuc 8134 ∷ negsuc 20190 ∷ pos 4132 ∷ pos 66082 ∷ pos 144406 ∷ pos 207845 ∷ pos 230023 ∷ pos 200762 ∷ pos 130241 ∷ pos 44835 ∷ pos 0 ∷ pos 0 ∷ pos 0
    ∷ negsuc 16032 ∷ negsuc 24867 ∷ pos 2674 ∷ pos 67844 ∷ pos 149387 ∷ pos 216046 ∷ pos 241446 ∷ pos 215403 ∷ pos 148101 ∷ pos 0 ∷ pos 0 ∷ pos 0 ∷ pos 0
    ∷ negsuc 42703 ∷ negsuc 38629 ∷ pos 1822 ∷ pos 79902 ∷ pos 174355 ∷ pos 253923 ∷ pos 292233 ∷ pos 279099 ∷ pos 0 ∷ pos 0 ∷ pos 0 ∷ pos 0 ∷ pos 0
    ∷ negsuc 91848 ∷ negsuc 58101 ∷ pos 12022 ∷ pos 119773 ∷ pos 243898 ∷ pos 353139 ∷ pos 421119 ∷ pos 0 ∷ pos 0 ∷ pos 0 ∷ pos 0 ∷ pos 0 ∷ pos 0 ∷ []

-- 23 terms
abbrev pub rows_henderson23 : List ℤ
rows_henderson23 =
    pos 288009 ∷ pos 262579 ∷ pos 226522 ∷ pos 182280 ∷ pos 133500 ∷ pos 84441 ∷ pos 39250 ∷ pos 1184 ∷ negsuc 28083 ∷ negsuc 48930 ∷ negsuc 63850 ∷ negsuc 76898 ∷ pos 0 ∷ pos 0 ∷ pos 0 ∷ pos 0 ∷ pos 0 ∷ pos 0 ∷ pos 0 ∷ pos 0 ∷ pos 0 ∷ pos 0 ∷ pos 0
    ∷ pos 223799 ∷ pos 219006 ∷ pos 202732 ∷ pos 175830 ∷ pos 140743 ∷ pos 101118 ∷ pos 61214 ∷ pos 25178 ∷ negsuc 3733 ∷ negsuc 23845 ∷ negsuc 35538 ∷ negsuc 41303 ∷ negsuc 45196 ∷ pos 0 ∷ pos 0 ∷ pos 0 ∷ pos 0 ∷ pos 0 ∷ pos 0 ∷ pos 0 ∷ pos 0 ∷ pos 0 ∷ pos 0
    ∷ pos 164559 ∷ pos 176216 ∷ pos 177247 ∷ pos 166791 ∷ pos 145709 ∷ pos 116443 ∷ pos 82638 ∷ pos 48555 ∷ pos 18340 ∷ negsuc 4750 ∷ negsuc 19042 ∷ negsuc 24914 ∷ negsuc 24857 ∷ negsuc 22930 ∷ pos 0 ∷ pos 0 ∷ pos 0 ∷ pos 0 ∷ pos 0 ∷ pos 0 ∷ pos 0 ∷ pos 0 ∷ pos 0
    ∷ pos 111106 ∷ pos 134370 ∷ pos 149450 ∷ pos 153904 ∷ pos 146872 ∷ pos 129214 ∷ pos 103372 ∷ pos 72990 ∷ pos 42331 ∷ pos 15539 ∷ negsuc 4127 ∷ negsuc 14995 ∷ negsuc 17444 ∷ negsuc 13964 ∷ negsuc 8613 ∷ pos 0 ∷ pos 0 ∷ pos 0 ∷ pos 0 ∷ pos 0 ∷ pos 0 ∷ pos 0 ∷ pos 0
    ∷ pos 64930 ∷ pos 94489 ∷ pos 119509 ∷ pos 136344 ∷ pos 142553 ∷ pos 137277 ∷ pos 121374 ∷ pos 97287 ∷ pos 68662 ∷ pos 39758 ∷ pos 14721 ∷ negsuc 3189 ∷ negsuc 12302 ∷ negsuc 12995 ∷ negsuc 7760 ∷ negsuc 653 ∷ pos 0 ∷ pos 0 ∷ pos 0 ∷ pos 0 ∷ pos 0 ∷ pos 0 ∷ pos 0
    ∷ pos 27730 ∷ pos 58230 ∷ pos 88451 ∷ pos 114133 ∷ pos 131631 ∷ pos 138501 ∷ pos 133888 ∷ pos 118648 ∷ pos 95223 ∷ pos 67260 ∷ pos 39018 ∷ pos 14644 ∷ negsuc 2604 ∷ negsuc 11055 ∷ negsuc 11086 ∷ negsuc 5188 ∷ pos 2580 ∷ pos 0 ∷ pos 0 ∷ pos 0 ∷ pos 0 ∷ pos 0 ∷ pos 0
    ∷ pos 879 ∷ pos 27529 ∷ pos 58047 ∷ pos 88287 ∷ pos 113988 ∷ pos 131504 ∷ pos 138394 ∷ pos 133799 ∷ pos 118578 ∷ pos 95171 ∷ pos 67227 ∷ pos 39004 ∷ pos 14648 ∷ negsuc 2581 ∷ negsuc 11013 ∷ negsuc 11025 ∷ negsuc 5109 ∷ pos 2677 ∷ pos 0 ∷ pos 0 ∷ pos 0 ∷ pos 0 ∷ pos 0
    ∷ negsuc 15086 ∷ pos 4152 ∷ pos 30516 ∷ pos 60747 ∷ pos 90700 ∷ pos 116115 ∷ pos 133345 ∷ pos 139948 ∷ pos 135067 ∷ pos 119559 ∷ pos 95866 ∷ pos 67635 ∷ pos 39126 ∷ pos 14484 ∷ negsuc 3032 ∷ negsuc 11750 ∷ negsuc 12049 ∷ negsuc 6419 ∷ pos 1081 ∷ pos 0 ∷ pos 0 ∷ pos 0 ∷ pos 0
    ∷ negsuc 20867 ∷ negsuc 10782 ∷ pos 8099 ∷ pos 34107 ∷ pos 63982 ∷ pos 93579 ∷ pos 118638 ∷ pos 135512 ∷ pos 141759 ∷ pos 136521 ∷ pos 120657 ∷ pos 96609 ∷ pos 68021 ∷ pos 39156 ∷ pos 14158 ∷ negsuc 3714 ∷ negsuc 12789 ∷ negsuc 13444 ∷ negsuc 8170 ∷ negsuc 1025 ∷ pos 0 ∷ pos 0 ∷ pos 0
    ∷ negsuc 18591 ∷ negsuc 17213 ∷ negsuc 7416 ∷ pos 11179 ∷ pos 36900 ∷ pos 66489 ∷ pos 95799 ∷ pos 120571 ∷ pos 137158 ∷ pos 143119 ∷ pos 137594 ∷ pos 121443 ∷ pos 97108 ∷ pos 68234 ∷ pos 39082 ∷ pos 13797 ∷ negsuc 4362 ∷ negsuc 13723 ∷ negsuc 14664 ∷ negsuc 9677 ∷ negsuc 2819 ∷ pos 0 ∷ pos 0
    ∷ negsuc 11685 ∷ negsuc 16399 ∷ negsuc 15185 ∷ negsuc 5551 ∷ pos 12881 ∷ pos 38438 ∷ pos 67863 ∷ pos 97010 ∷ pos 121618 ∷ pos 138042 ∷ pos 143840 ∷ pos 138151 ∷ pos 121836 ∷ pos 97337 ∷ pos 68300 ∷ pos 38984 ∷ pos 13536 ∷ negsuc 4787 ∷ negsuc 14312 ∷ negsuc 15416 ∷ negsuc 10593 ∷ negsuc 3899 ∷ pos 0
    ∷ negsuc 4277 ∷ negsuc 10917 ∷ negsuc 15686 ∷ negsuc 14526 ∷ negsuc 4947 ∷ pos 13430 ∷ pos 38933 ∷ pos 68303 ∷ pos 97395 ∷ pos 121949 ∷ pos 138318 ∷ pos 144060 ∷ pos 138318 ∷ pos 121949 ∷ pos 97395 ∷ pos 68303 ∷ pos 38933 ∷ pos 13430 ∷ negsuc 4947 ∷ negsuc 14526 ∷ negsuc 15686 ∷ negsuc 10917 ∷ negsuc 4277
    ∷ negsuc 3899 ∷ negsuc 10593 ∷ negsuc 15416 ∷ negsuc 14312 ∷ negsuc 4787 ∷ pos 13536 ∷ pos 38984 ∷ pos 68300 ∷ pos 97337 ∷ pos 121836 ∷ pos 138151 ∷ pos 143840 ∷ pos 138042 ∷ pos 121618 ∷ pos 97010 ∷ pos 67863 ∷ pos 38438 ∷ pos 12881 ∷ negsuc 5551 ∷ negsuc 15185 ∷ negsuc 16399 ∷ negsuc 11685 ∷ pos 0
    ∷ negsuc 2819 ∷ negsuc 9677 ∷ negsuc 14664 ∷ negsuc 13723 ∷ negsuc 4362 ∷ pos 13797 ∷ pos 39082 ∷ pos 68234 ∷ pos 97108 ∷ pos 121443 ∷ pos 137594 ∷ pos 143119 ∷ pos 137158 ∷ pos 120571 ∷ pos 95799 ∷ pos 66489 ∷ pos 36900 ∷ pos 11179 ∷ negsuc 7416 ∷ negsuc 17213 ∷ negsuc 18591 ∷ pos 0 ∷ pos 0
    ∷ negsuc 1025 ∷ negsuc 8170 ∷ negsuc 13444 ∷ negsuc 12789 ∷ negsuc 3714 ∷ pos 14158 ∷ pos 39156 ∷ pos 68021 ∷ pos 96609 ∷ pos 120657 ∷ pos 136521 ∷ pos 141759 ∷ pos 135512 ∷ pos 118638 ∷ pos 93579 ∷ pos 63982 ∷ pos 34107 ∷ pos 8099 ∷ negsuc 10782 ∷ negsuc 20867 ∷ pos 0 ∷ pos 0 ∷ pos 0
    ∷ pos 1081 ∷ negsuc 6419 ∷ negsuc 12049 ∷ negsuc 11750 ∷ negsuc 3032 ∷ pos 14484 ∷ pos 39126 ∷ pos 67635 ∷ pos 95866 ∷ pos 119559 ∷ pos 135067 ∷ pos 139948 ∷ pos 133345 ∷ pos 116115 ∷ pos 90700 ∷ pos 60747 ∷ pos 30516 ∷ pos 4152 ∷ negsuc 15086 ∷ pos 0 ∷ pos 0 ∷ pos 0 ∷ pos 0
    ∷ pos 2677 ∷ negsuc 5109 ∷ negsuc 11025 ∷ negsuc 11013 ∷ negsuc 2581 ∷ pos 14648 ∷ pos 39004 ∷ pos 67227 ∷ pos 95171 ∷ pos 118578 ∷ pos 133799 ∷ pos 138394 ∷ pos 131504 ∷ pos 113988 ∷ pos 88287 ∷ pos 58047 ∷ pos 27529 ∷ pos 879 ∷ pos 0 ∷ pos 0 ∷ pos 0 ∷ pos 0 ∷ pos 0
    ∷ pos 2580 ∷ negsuc 5188 ∷ negsuc 11086 ∷ negsuc 11055 ∷ negsuc 2604 ∷ pos 14644 ∷ pos 39018 ∷ pos 67260 ∷ pos 95223 ∷ pos 118648 ∷ pos 133888 ∷ pos 138501 ∷ pos 131631 ∷ pos 114133 ∷ pos 88451 ∷ pos 58230 ∷ pos 27730 ∷ pos 0 ∷ pos 0 ∷ pos 0 ∷ pos 0 ∷ pos 0 ∷ pos 0
    ∷ negsuc 653 ∷ negsuc 7760 ∷ negsuc 12995 ∷ negsuc 12302 ∷ negsuc 3189 ∷ pos 14721 ∷ pos 39758 ∷ pos 68662 ∷ pos 97287 ∷ pos 121374 ∷ pos 137277 ∷ pos 142553 ∷ pos 136344 ∷ pos 119509 ∷ pos 94489 ∷ pos 64930 ∷ pos 0 ∷ pos 0 ∷ pos 0 ∷ pos 0 ∷ pos 0 ∷ pos 0 ∷ pos 0
    ∷ negsuc 8613 ∷ negsuc 13964 ∷ negsuc 17444 ∷ negsuc 14995 ∷ negsuc 4127 ∷ pos 15539 ∷ pos 42331 ∷ pos 72990 ∷ pos 103372 ∷ pos 129214 ∷ pos 146872 ∷ pos 153904 ∷ pos 149450 ∷ pos 134370 ∷ pos 111106 ∷ pos 0 ∷ pos 0 ∷ pos 0 ∷ pos 0 ∷ pos 0 ∷ pos 0 ∷ pos 0 ∷ pos 0
    ∷ negsuc 22930 ∷ negsuc 24857 ∷ negsuc 24914 ∷ negsuc 19042 ∷ negsuc 4750 ∷ pos 18340 ∷ pos 48555 ∷ pos 82638 ∷ pos 116443 ∷ pos 145709 ∷ pos 166791 ∷ pos 177247 ∷ pos 176216 ∷ pos 164559 ∷ pos 0 ∷ pos 0 ∷ pos 0 ∷ pos 0 ∷ pos 0 ∷ pos 0 ∷ pos 0 ∷ pos 0 ∷ pos 0
    ∷ negsuc 45196 ∷ negsuc 41303 ∷ negsuc 35538 ∷ negsuc 23845 ∷ negsuc 3733 ∷ pos 25178 ∷ pos 61214 ∷ pos 101118 ∷ pos 140743 ∷ pos 175830 ∷ pos 202732 ∷ pos 219006 ∷ pos 223799 ∷ pos 0 ∷ pos 0 ∷ pos 0 ∷ pos 0 ∷ pos 0 ∷ pos 0 ∷ pos 0 ∷ pos 0 ∷ pos 0 ∷ pos 0
    ∷ negsuc 76898 ∷ negsuc 63850 ∷ negsuc 48930 ∷ negsuc 28083 ∷ pos 1184 ∷ pos 39250 ∷ pos 84441 ∷ pos 133500 ∷ pos 182280 ∷ pos 226522 ∷ pos 262579 ∷ pos 288009 ∷ pos 0 ∷ pos 0 ∷ pos 0 ∷ pos 0 ∷ pos 0 ∷ pos 0 ∷ pos 0 ∷ pos 0 ∷ pos 0 ∷ pos 0 ∷ pos 0 ∷ []
