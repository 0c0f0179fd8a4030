-- The printed braking distances, and each figure of them beside its headings. Assumes nothing.
--     Row                     a printed row: the code to brake to at its head, and its figures in metres. The last of them stands
--                             under 120 km/h, and the others fill leftward under the nine speeds to brake from
--     emergency_rows k        the emergency distances of class k, a row for each code to brake to, from 100 km/h down to stop
--     service_row k           the service distances of class k, all to a stop
--     headed row              the figures of a row, each beside its headings: from, to, metres
--     emergency_table k, service_table k    the figures of class k, each beside its headings
--     stands figure from to   whether from and to are the headings of a figure
--     beside table from to    the distance that stands in a table beside the headings from and to, 0 where none does
--     printed_emergency, printed_service    E and D of the printed book
use Rattle.std.specs.Prelude.{ℕ, ◌-◌, Bool, ◌&&◌, List, [], ◌∷◌, length, drop, ◌==◌}
use Rattle.std.specs.Option.{option_map_or}
use Rattle.std.specs.List.{find, flat_map}
use Rattle.codes.specs.declared.speeds.Speed.{Speed}
use Rattle.codes.specs.declared.speeds.Speed.TheVariants.{V30, V40, V50, V60, V70, V80, V90, V100}
use Rattle.codes.specs.declared.speeds.Code.{Code}
use Rattle.codes.specs.declared.speeds.Code.TheVariants.{Stop, Go}
use Rattle.codes.specs.declared.gradients.Class.{Class}
use Rattle.codes.specs.declared.gradients.Class.TheVariants.{C1, C2, C3, C4, C5, C6, C7, C8, C9, C10, C11}
use Rattle.codes.specs.Speeds.{kmh, byte, speeds}
use Rattle.laws.specs.Books.{Emergencies, Services}
use Rattle.books.specs.declared.published.tables.Figure.{Figure}

abbrev pub Row : Type 0
Row = Code × List ℕ

abbrev rows_3 : List Row
rows_3 =
    (Go V100, 417 ∷ []) ∷
    (Go V90, 255 ∷ 520 ∷ []) ∷
    (Go V80, 230 ∷ 347 ∷ 613 ∷ []) ∷
    (Go V70, 205 ∷ 312 ∷ 429 ∷ 695 ∷ []) ∷
    (Go V60, 181 ∷ 277 ∷ 384 ∷ 501 ∷ 767 ∷ []) ∷
    (Go V50, 156 ∷ 242 ∷ 339 ∷ 446 ∷ 563 ∷ 829 ∷ []) ∷
    (Go V40, 131 ∷ 207 ∷ 294 ∷ 390 ∷ 497 ∷ 615 ∷ 880 ∷ []) ∷
    (Go V30, 106 ∷ 172 ∷ 248 ∷ 335 ∷ 432 ∷ 539 ∷ 656 ∷ 921 ∷ []) ∷
    (Stop, 114 ∷ 169 ∷ 235 ∷ 311 ∷ 398 ∷ 495 ∷ 602 ∷ 719 ∷ 984 ∷ []) ∷ []

abbrev rows_4 : List Row
rows_4 =
    (Go V100, 419 ∷ []) ∷
    (Go V90, 256 ∷ 523 ∷ []) ∷
    (Go V80, 231 ∷ 349 ∷ 617 ∷ []) ∷
    (Go V70, 206 ∷ 314 ∷ 431 ∷ 700 ∷ []) ∷
    (Go V60, 182 ∷ 278 ∷ 386 ∷ 504 ∷ 772 ∷ []) ∷
    (Go V50, 157 ∷ 243 ∷ 341 ∷ 449 ∷ 567 ∷ 835 ∷ []) ∷
    (Go V40, 131 ∷ 208 ∷ 296 ∷ 392 ∷ 500 ∷ 619 ∷ 886 ∷ []) ∷
    (Go V30, 106 ∷ 173 ∷ 249 ∷ 337 ∷ 435 ∷ 543 ∷ 661 ∷ 928 ∷ []) ∷
    (Stop, 115 ∷ 170 ∷ 237 ∷ 313 ∷ 401 ∷ 499 ∷ 606 ∷ 724 ∷ 991 ∷ []) ∷ []

abbrev rows_5 : List Row
rows_5 =
    (Go V100, 422 ∷ []) ∷
    (Go V90, 257 ∷ 527 ∷ []) ∷
    (Go V80, 232 ∷ 351 ∷ 621 ∷ []) ∷
    (Go V70, 207 ∷ 315 ∷ 434 ∷ 705 ∷ []) ∷
    (Go V60, 182 ∷ 280 ∷ 389 ∷ 508 ∷ 778 ∷ []) ∷
    (Go V50, 157 ∷ 245 ∷ 343 ∷ 452 ∷ 571 ∷ 842 ∷ []) ∷
    (Go V40, 132 ∷ 209 ∷ 298 ∷ 395 ∷ 504 ∷ 624 ∷ 894 ∷ []) ∷
    (Go V30, 107 ∷ 174 ∷ 251 ∷ 340 ∷ 438 ∷ 547 ∷ 666 ∷ 936 ∷ []) ∷
    (Stop, 116 ∷ 171 ∷ 238 ∷ 316 ∷ 404 ∷ 503 ∷ 612 ∷ 731 ∷ 1000 ∷ []) ∷ []

abbrev rows_6 : List Row
rows_6 =
    (Go V100, 424 ∷ []) ∷
    (Go V90, 258 ∷ 530 ∷ []) ∷
    (Go V80, 233 ∷ 353 ∷ 626 ∷ []) ∷
    (Go V70, 208 ∷ 317 ∷ 437 ∷ 711 ∷ []) ∷
    (Go V60, 183 ∷ 282 ∷ 392 ∷ 512 ∷ 785 ∷ []) ∷
    (Go V50, 158 ∷ 246 ∷ 346 ∷ 455 ∷ 576 ∷ 849 ∷ []) ∷
    (Go V40, 133 ∷ 211 ∷ 300 ∷ 398 ∷ 508 ∷ 629 ∷ 901 ∷ []) ∷
    (Go V30, 107 ∷ 175 ∷ 253 ∷ 342 ∷ 442 ∷ 551 ∷ 672 ∷ 944 ∷ []) ∷
    (Stop, 116 ∷ 173 ∷ 240 ∷ 318 ∷ 407 ∷ 507 ∷ 617 ∷ 737 ∷ 1009 ∷ []) ∷ []

abbrev rows_7 : List Row
rows_7 =
    (Go V100, 431 ∷ []) ∷
    (Go V90, 261 ∷ 540 ∷ []) ∷
    (Go V80, 235 ∷ 358 ∷ 638 ∷ []) ∷
    (Go V70, 210 ∷ 322 ∷ 445 ∷ 725 ∷ []) ∷
    (Go V60, 185 ∷ 286 ∷ 399 ∷ 522 ∷ 801 ∷ []) ∷
    (Go V50, 160 ∷ 250 ∷ 352 ∷ 464 ∷ 587 ∷ 867 ∷ []) ∷
    (Go V40, 134 ∷ 214 ∷ 305 ∷ 406 ∷ 518 ∷ 642 ∷ 921 ∷ []) ∷
    (Go V30, 109 ∷ 178 ∷ 257 ∷ 349 ∷ 451 ∷ 563 ∷ 686 ∷ 965 ∷ []) ∷
    (Stop, 119 ∷ 176 ∷ 245 ∷ 325 ∷ 416 ∷ 518 ∷ 631 ∷ 754 ∷ 1032 ∷ []) ∷ []

abbrev rows_8 : List Row
rows_8 =
    (Go V100, 445 ∷ []) ∷
    (Go V90, 267 ∷ 560 ∷ []) ∷
    (Go V80, 241 ∷ 370 ∷ 665 ∷ []) ∷
    (Go V70, 215 ∷ 333 ∷ 462 ∷ 757 ∷ []) ∷
    (Go V60, 190 ∷ 296 ∷ 414 ∷ 543 ∷ 837 ∷ []) ∷
    (Go V50, 164 ∷ 258 ∷ 365 ∷ 484 ∷ 613 ∷ 907 ∷ []) ∷
    (Go V40, 137 ∷ 221 ∷ 317 ∷ 423 ∷ 541 ∷ 671 ∷ 965 ∷ []) ∷
    (Go V30, 111 ∷ 184 ∷ 267 ∷ 363 ∷ 470 ∷ 588 ∷ 718 ∷ 1011 ∷ []) ∷
    (Stop, 123 ∷ 184 ∷ 256 ∷ 340 ∷ 436 ∷ 543 ∷ 661 ∷ 790 ∷ 1083 ∷ []) ∷ []

abbrev rows_9 : List Row
rows_9 =
    (Go V100, 462 ∷ []) ∷
    (Go V90, 275 ∷ 584 ∷ []) ∷
    (Go V80, 248 ∷ 384 ∷ 695 ∷ []) ∷
    (Go V70, 221 ∷ 345 ∷ 482 ∷ 793 ∷ []) ∷
    (Go V60, 195 ∷ 307 ∷ 431 ∷ 568 ∷ 879 ∷ []) ∷
    (Go V50, 168 ∷ 268 ∷ 381 ∷ 505 ∷ 642 ∷ 953 ∷ []) ∷
    (Go V40, 141 ∷ 229 ∷ 330 ∷ 442 ∷ 567 ∷ 704 ∷ 1014 ∷ []) ∷
    (Go V30, 114 ∷ 191 ∷ 279 ∷ 380 ∷ 492 ∷ 617 ∷ 754 ∷ 1063 ∷ []) ∷
    (Stop, 129 ∷ 192 ∷ 268 ∷ 357 ∷ 457 ∷ 570 ∷ 695 ∷ 831 ∷ 1141 ∷ []) ∷ []

abbrev rows_10 : List Row
rows_10 =
    (Go V100, 480 ∷ []) ∷
    (Go V90, 283 ∷ 611 ∷ []) ∷
    (Go V80, 255 ∷ 400 ∷ 729 ∷ []) ∷
    (Go V70, 227 ∷ 360 ∷ 504 ∷ 834 ∷ []) ∷
    (Go V60, 201 ∷ 319 ∷ 451 ∷ 596 ∷ 926 ∷ []) ∷
    (Go V50, 173 ∷ 279 ∷ 398 ∷ 531 ∷ 675 ∷ 1005 ∷ []) ∷
    (Go V40, 146 ∷ 239 ∷ 346 ∷ 464 ∷ 596 ∷ 742 ∷ 1070 ∷ []) ∷
    (Go V30, 118 ∷ 198 ∷ 292 ∷ 398 ∷ 518 ∷ 650 ∷ 795 ∷ 1123 ∷ []) ∷
    (Stop, 135 ∷ 202 ∷ 283 ∷ 376 ∷ 483 ∷ 602 ∷ 734 ∷ 879 ∷ 1207 ∷ []) ∷ []

abbrev rows_11 : List Row
rows_11 =
    (Go V100, 515 ∷ []) ∷
    (Go V90, 298 ∷ 660 ∷ []) ∷
    (Go V80, 269 ∷ 428 ∷ 792 ∷ []) ∷
    (Go V70, 240 ∷ 385 ∷ 545 ∷ 908 ∷ []) ∷
    (Go V60, 211 ∷ 342 ∷ 488 ∷ 647 ∷ 1011 ∷ []) ∷
    (Go V50, 182 ∷ 299 ∷ 430 ∷ 576 ∷ 736 ∷ 1099 ∷ []) ∷
    (Go V40, 153 ∷ 256 ∷ 373 ∷ 504 ∷ 649 ∷ 810 ∷ 1173 ∷ []) ∷
    (Go V30, 124 ∷ 213 ∷ 315 ∷ 433 ∷ 564 ∷ 710 ∷ 869 ∷ 1232 ∷ []) ∷
    (Stop, 147 ∷ 220 ∷ 308 ∷ 411 ∷ 528 ∷ 660 ∷ 805 ∷ 965 ∷ 1327 ∷ []) ∷ []

-- classes 1 and 2 use the emergency figures of class 3
abbrev pub emergency_rows : Class → List Row
emergency_rows C1 = rows_3
emergency_rows C2 = rows_3
emergency_rows C3 = rows_3
emergency_rows C4 = rows_4
emergency_rows C5 = rows_5
emergency_rows C6 = rows_6
emergency_rows C7 = rows_7
emergency_rows C8 = rows_8
emergency_rows C9 = rows_9
emergency_rows C10 = rows_10
emergency_rows C11 = rows_11

abbrev pub service_row : Class → Row
service_row C1 = (Stop, 62 ∷ 102 ∷ 151 ∷ 211 ∷ 280 ∷ 358 ∷ 447 ∷ 545 ∷ 770 ∷ [])
service_row C2 = (Stop, 63 ∷ 104 ∷ 155 ∷ 216 ∷ 287 ∷ 368 ∷ 459 ∷ 560 ∷ 793 ∷ [])
service_row C3 = (Stop, 64 ∷ 106 ∷ 159 ∷ 221 ∷ 294 ∷ 377 ∷ 471 ∷ 574 ∷ 813 ∷ [])
service_row C4 = (Stop, 65 ∷ 107 ∷ 160 ∷ 223 ∷ 297 ∷ 381 ∷ 475 ∷ 580 ∷ 821 ∷ [])
service_row C5 = (Stop, 65 ∷ 108 ∷ 162 ∷ 226 ∷ 300 ∷ 385 ∷ 481 ∷ 587 ∷ 831 ∷ [])
service_row C6 = (Stop, 66 ∷ 110 ∷ 164 ∷ 228 ∷ 304 ∷ 390 ∷ 487 ∷ 594 ∷ 842 ∷ [])
service_row C7 = (Stop, 68 ∷ 113 ∷ 168 ∷ 235 ∷ 313 ∷ 402 ∷ 502 ∷ 613 ∷ 869 ∷ [])
service_row C8 = (Stop, 72 ∷ 119 ∷ 179 ∷ 250 ∷ 334 ∷ 429 ∷ 536 ∷ 655 ∷ 929 ∷ [])
service_row C9 = (Stop, 76 ∷ 127 ∷ 191 ∷ 268 ∷ 357 ∷ 460 ∷ 575 ∷ 704 ∷ 999 ∷ [])
service_row C10 = (Stop, 81 ∷ 136 ∷ 205 ∷ 288 ∷ 386 ∷ 497 ∷ 622 ∷ 761 ∷ 1082 ∷ [])
service_row C11 = (Stop, 91 ∷ 154 ∷ 232 ∷ 327 ∷ 439 ∷ 566 ∷ 710 ∷ 869 ∷ 1238 ∷ [])

-- the figures of a row under the speeds given for them
abbrev under : Code → List Speed → List ℕ → List Figure
under to [] figures = []
under to (from ∷ faster) [] = []
under to (from ∷ faster) (metres ∷ figures) = (from, to, metres) ∷ under to faster figures

abbrev pub headed : Row → List Figure
headed (to, figures) = under to (drop (9 - length figures) speeds) figures

abbrev pub emergency_table : Class → List Figure
emergency_table k = flat_map headed (emergency_rows k)

abbrev pub service_table : Class → List Figure
service_table k = headed (service_row k)

abbrev pub stands : Figure → Speed → Code → Bool
stands figure from to = kmh figure.0 == kmh from && byte figure.1 == byte to

unfoldable pub beside : List Figure → Speed → Code → ℕ
beside table from to = option_map_or (λ (figure : Figure). figure.2) (find (λ figure. stands figure from to) table) 0

abbrev pub printed_emergency : Emergencies
printed_emergency k = beside (emergency_table k)

abbrev pub printed_service : Services
printed_service k from = beside (service_table k) from Stop
