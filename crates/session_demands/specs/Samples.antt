-- Three sample files more, as bytes and as the text that each prints. A record is written as the hexadecimal digits of its bytes.
use Rattle.std.specs.Prelude.{◌≡◌, List, [], ◌∷◌, ◌++◌, ℕ, codes}
use Rattle.units.specs.Lists.{All}
use Rattle.layout.specs.Layout.{spelled, order_bytes, link_bytes}

pub record Sample : Type 0 where
  pub bytes : List ℕ
  pub text : List ℕ

abbrev link : ℕ → List ℕ
link digits = spelled link_bytes digits

abbrev order : ℕ → List ℕ
order digits = spelled order_bytes digits

-- a busy day with cancellations; minute 480 is eight o'clock
abbrev pub busy_day : Sample
busy_day = record {
  bytes =
      6 ∷ 0 ∷ []
      -- link 0: from 0 to 1, 100 Mb/s
      ++ link 0x0040_0190_0000_0000
      -- link 1: from 1 to 3, 100 Mb/s
      ++ link 0x08C0_0190_0000_0000
      -- link 2: from 0 to 2, 60 Mb/s
      ++ link 0x0080_00F0_0000_0000
      -- link 3: from 2 to 3, 60 Mb/s
      ++ link 0x10C0_00F0_0000_0000
      -- link 4: from 0 to 3, 40 Mb/s
      ++ link 0x00C0_00A0_0000_0000
      -- link 5: from 3 to 0, 100 Mb/s
      ++ link 0x1800_0190_0000_0000
      -- 1: clock 480
      ++ order 0x3000_0000_0000_0000_0000_0078_0000_0000
      -- 2: book 101, from 0 to 3, 40 Mb/s for 120 minutes, earliest 480, latest open
      ++ order 0x1019_4030_0028_0007_8000_0078_3FFF_FFFF
      -- 3: book 102, from 0 to 3, 80 Mb/s for 90 minutes, earliest 480, latest open
      ++ order 0x1019_8030_0050_0005_A000_0078_3FFF_FFFF
      -- 4: book 103, from 0 to 3, 60 Mb/s for 60 minutes, earliest 480, latest open
      ++ order 0x1019_C030_003C_0003_C000_0078_3FFF_FFFF
      -- 5: book 104, from 0 to 3, 40 Mb/s for 30 minutes, earliest 500, latest 530
      ++ order 0x101A_0030_0028_0001_E000_007D_0000_0212
      -- 6: the same, latest 540
      ++ order 0x101A_0030_0028_0001_E000_007D_0000_021C
      -- 7: offer, from 0 to 3, 100 Mb/s for 60 minutes, earliest 480, latest open
      ++ order 0x4000_0030_0064_0003_C000_0078_3FFF_FFFF
      -- 8: cancel 102
      ++ order 0x2019_8000_0000_0000_0000_0000_0000_0000
      -- 9: the same offer again
      ++ order 0x4000_0030_0064_0003_C000_0078_3FFF_FFFF
      -- 10: book 105, from 0 to 3, 100 Mb/s for 60 minutes, earliest 480, latest open
      ++ order 0x101A_4030_0064_0003_C000_0078_3FFF_FFFF
      -- 11: book 105, from 0 to 3, 1 Mb/s for 1 minute, earliest 480, latest open
      ++ order 0x101A_4030_0001_0000_1000_0078_3FFF_FFFF
      -- 12: clock 540
      ++ order 0x3000_0000_0000_0000_0000_0087_0000_0000
      -- 13: cancel 103, which has ended
      ++ order 0x2019_C000_0000_0000_0000_0000_0000_0000
      -- 14: cancel 101, which is running
      ++ order 0x2019_4000_0000_0000_0000_0000_0000_0000
      -- 15: book 106, from 0 to 3, 40 Mb/s for 10 minutes, earliest 540, latest 540
      ++ order 0x101A_8030_0028_0000_A000_0087_0000_021C
      -- 16: book 107, from 3 to 1, 50 Mb/s for 30 minutes, earliest 600, latest 660
      ++ order 0x101A_C610_0032_0001_E000_0096_0000_0294
      -- 17: offer, from 1 to 0, 10 Mb/s for 10 minutes, earliest 540, latest open
      ++ order 0x4000_0200_000A_0000_A000_0087_3FFF_FFFF
      -- 18: book 108, from 1 to 2, 60 Mb/s for 45 minutes, earliest 540, latest open
      ++ order 0x101B_0220_003C_0002_D000_0087_3FFF_FFFF
      -- 19: clock 530
      ++ order 0x3000_0000_0000_0000_0000_0084_8000_0000
      -- 20: clock 570
      ++ order 0x3000_0000_0000_0000_0000_008E_8000_0000
      -- 21: cancel 108
      ++ order 0x201B_0000_0000_0000_0000_0000_0000_0000
      -- 22: book 108, from 1 to 2, 60 Mb/s for 45 minutes, earliest 540, latest 569
      ++ order 0x101B_0220_003C_0002_D000_0087_0000_0239;
  text =
      codes "desk links 6\n"
      ++ codes "1 clock 480\n"
      ++ codes "2 booked 101 start 480 links 4\n"
      ++ codes "3 booked 102 start 480 links 0 1\n"
      ++ codes "4 booked 103 start 480 links 2 3\n"
      ++ codes "5 refused 8 at 500\n"
      ++ codes "6 booked 104 start 540 links 2 3\n"
      ++ codes "7 offer start 570 links 0 1\n"
      ++ codes "8 cancelled 102\n"
      ++ codes "9 offer start 480 links 0 1\n"
      ++ codes "10 booked 105 start 480 links 0 1\n"
      ++ codes "11 refused 6\n"
      ++ codes "12 clock 540\n"
      ++ codes "13 refused 9\n"
      ++ codes "14 cancelled 101\n"
      ++ codes "15 booked 106 start 540 links 4\n"
      ++ codes "16 booked 107 start 600 links 5 0\n"
      ++ codes "17 offer start 540 links 1 5\n"
      ++ codes "18 booked 108 start 630 links 1 5 2\n"
      ++ codes "19 refused 10\n"
      ++ codes "20 clock 570\n"
      ++ codes "21 cancelled 108\n"
      ++ codes "22 refused 5\n";
}

-- a full book: 64 bookings stand
abbrev pub full_book : Sample
full_book = record {
  bytes =
      2 ∷ 0 ∷ []
      -- link 0: from 0 to 1, 40 Mb/s
      ++ link 0x0040_00A0_0000_0000
      -- link 1: from 0 to 1, 40 Mb/s
      ++ link 0x0040_00A0_0000_0000
      -- 1: book 1, from 0 to 1, 1 Mb/s for 60 minutes, earliest 0, latest 0
      ++ order 0x1000_4010_0001_0003_C000_0000_0000_0000
      -- 2: book 2, from 0 to 1, 1 Mb/s for 60 minutes, earliest 0, latest 0
      ++ order 0x1000_8010_0001_0003_C000_0000_0000_0000
      -- 3: book 3, from 0 to 1, 1 Mb/s for 60 minutes, earliest 0, latest 0
      ++ order 0x1000_C010_0001_0003_C000_0000_0000_0000
      -- 4: book 4, from 0 to 1, 1 Mb/s for 60 minutes, earliest 0, latest 0
      ++ order 0x1001_0010_0001_0003_C000_0000_0000_0000
      -- 5: book 5, from 0 to 1, 1 Mb/s for 60 minutes, earliest 0, latest 0
      ++ order 0x1001_4010_0001_0003_C000_0000_0000_0000
      -- 6: book 6, from 0 to 1, 1 Mb/s for 60 minutes, earliest 0, latest 0
      ++ order 0x1001_8010_0001_0003_C000_0000_0000_0000
      -- 7: book 7, from 0 to 1, 1 Mb/s for 60 minutes, earliest 0, latest 0
      ++ order 0x1001_C010_0001_0003_C000_0000_0000_0000
      -- 8: book 8, from 0 to 1, 1 Mb/s for 60 minutes, earliest 0, latest 0
      ++ order 0x1002_0010_0001_0003_C000_0000_0000_0000
      -- 9: book 9, from 0 to 1, 1 Mb/s for 60 minutes, earliest 0, latest 0
      ++ order 0x1002_4010_0001_0003_C000_0000_0000_0000
      -- 10: book 10, from 0 to 1, 1 Mb/s for 60 minutes, earliest 0, latest 0
      ++ order 0x1002_8010_0001_0003_C000_0000_0000_0000
      -- 11: book 11, from 0 to 1, 1 Mb/s for 60 minutes, earliest 0, latest 0
      ++ order 0x1002_C010_0001_0003_C000_0000_0000_0000
      -- 12: book 12, from 0 to 1, 1 Mb/s for 60 minutes, earliest 0, latest 0
      ++ order 0x1003_0010_0001_0003_C000_0000_0000_0000
      -- 13: book 13, from 0 to 1, 1 Mb/s for 60 minutes, earliest 0, latest 0
      ++ order 0x1003_4010_0001_0003_C000_0000_0000_0000
      -- 14: book 14, from 0 to 1, 1 Mb/s for 60 minutes, earliest 0, latest 0
      ++ order 0x1003_8010_0001_0003_C000_0000_0000_0000
      -- 15: book 15, from 0 to 1, 1 Mb/s for 60 minutes, earliest 0, latest 0
      ++ order 0x1003_C010_0001_0003_C000_0000_0000_0000
      -- 16: book 16, from 0 to 1, 1 Mb/s for 60 minutes, earliest 0, latest 0
      ++ order 0x1004_0010_0001_0003_C000_0000_0000_0000
      -- 17: book 17, from 0 to 1, 1 Mb/s for 60 minutes, earliest 0, latest 0
      ++ order 0x1004_4010_0001_0003_C000_0000_0000_0000
      -- 18: book 18, from 0 to 1, 1 Mb/s for 60 minutes, earliest 0, latest 0
      ++ order 0x1004_8010_0001_0003_C000_0000_0000_0000
      -- 19: book 19, from 0 to 1, 1 Mb/s for 60 minutes, earliest 0, latest 0
      ++ order 0x1004_C010_0001_0003_C000_0000_0000_0000
      -- 20: book 20, from 0 to 1, 1 Mb/s for 60 minutes, earliest 0, latest 0
      ++ order 0x1005_0010_0001_0003_C000_0000_0000_0000
      -- 21: book 21, from 0 to 1, 1 Mb/s for 60 minutes, earliest 0, latest 0
      ++ order 0x1005_4010_0001_0003_C000_0000_0000_0000
      -- 22: book 22, from 0 to 1, 1 Mb/s for 60 minutes, earliest 0, latest 0
      ++ order 0x1005_8010_0001_0003_C000_0000_0000_0000
      -- 23: book 23, from 0 to 1, 1 Mb/s for 60 minutes, earliest 0, latest 0
      ++ order 0x1005_C010_0001_0003_C000_0000_0000_0000
      -- 24: book 24, from 0 to 1, 1 Mb/s for 60 minutes, earliest 0, latest 0
      ++ order 0x1006_0010_0001_0003_C000_0000_0000_0000
      -- 25: book 25, from 0 to 1, 1 Mb/s for 60 minutes, earliest 0, latest 0
      ++ order 0x1006_4010_0001_0003_C000_0000_0000_0000
      -- 26: book 26, from 0 to 1, 1 Mb/s for 60 minutes, earliest 0, latest 0
      ++ order 0x1006_8010_0001_0003_C000_0000_0000_0000
      -- 27: book 27, from 0 to 1, 1 Mb/s for 60 minutes, earliest 0, latest 0
      ++ order 0x1006_C010_0001_0003_C000_0000_0000_0000
      -- 28: book 28, from 0 to 1, 1 Mb/s for 60 minutes, earliest 0, latest 0
      ++ order 0x1007_0010_0001_0003_C000_0000_0000_0000
      -- 29: book 29, from 0 to 1, 1 Mb/s for 60 minutes, earliest 0, latest 0
      ++ order 0x1007_4010_0001_0003_C000_0000_0000_0000
      -- 30: book 30, from 0 to 1, 1 Mb/s for 60 minutes, earliest 0, latest 0
      ++ order 0x1007_8010_0001_0003_C000_0000_0000_0000
      -- 31: book 31, from 0 to 1, 1 Mb/s for 60 minutes, earliest 0, latest 0
      ++ order 0x1007_C010_0001_0003_C000_0000_0000_0000
      -- 32: book 32, from 0 to 1, 1 Mb/s for 60 minutes, earliest 0, latest 0
      ++ order 0x1008_0010_0001_0003_C000_0000_0000_0000
      -- 33: book 33, from 0 to 1, 1 Mb/s for 60 minutes, earliest 0, latest 0
      ++ order 0x1008_4010_0001_0003_C000_0000_0000_0000
      -- 34: book 34, from 0 to 1, 1 Mb/s for 60 minutes, earliest 0, latest 0
      ++ order 0x1008_8010_0001_0003_C000_0000_0000_0000
      -- 35: book 35, from 0 to 1, 1 Mb/s for 60 minutes, earliest 0, latest 0
      ++ order 0x1008_C010_0001_0003_C000_0000_0000_0000
      -- 36: book 36, from 0 to 1, 1 Mb/s for 60 minutes, earliest 0, latest 0
      ++ order 0x1009_0010_0001_0003_C000_0000_0000_0000
      -- 37: book 37, from 0 to 1, 1 Mb/s for 60 minutes, earliest 0, latest 0
      ++ order 0x1009_4010_0001_0003_C000_0000_0000_0000
      -- 38: book 38, from 0 to 1, 1 Mb/s for 60 minutes, earliest 0, latest 0
      ++ order 0x1009_8010_0001_0003_C000_0000_0000_0000
      -- 39: book 39, from 0 to 1, 1 Mb/s for 60 minutes, earliest 0, latest 0
      ++ order 0x1009_C010_0001_0003_C000_0000_0000_0000
      -- 40: book 40, from 0 to 1, 1 Mb/s for 60 minutes, earliest 0, latest 0
      ++ order 0x100A_0010_0001_0003_C000_0000_0000_0000
      -- 41: book 41, from 0 to 1, 1 Mb/s for 60 minutes, earliest 0, latest 0
      ++ order 0x100A_4010_0001_0003_C000_0000_0000_0000
      -- 42: book 42, from 0 to 1, 1 Mb/s for 60 minutes, earliest 0, latest 0
      ++ order 0x100A_8010_0001_0003_C000_0000_0000_0000
      -- 43: book 43, from 0 to 1, 1 Mb/s for 60 minutes, earliest 0, latest 0
      ++ order 0x100A_C010_0001_0003_C000_0000_0000_0000
      -- 44: book 44, from 0 to 1, 1 Mb/s for 60 minutes, earliest 0, latest 0
      ++ order 0x100B_0010_0001_0003_C000_0000_0000_0000
      -- 45: book 45, from 0 to 1, 1 Mb/s for 60 minutes, earliest 0, latest 0
      ++ order 0x100B_4010_0001_0003_C000_0000_0000_0000
      -- 46: book 46, from 0 to 1, 1 Mb/s for 60 minutes, earliest 0, latest 0
      ++ order 0x100B_8010_0001_0003_C000_0000_0000_0000
      -- 47: book 47, from 0 to 1, 1 Mb/s for 60 minutes, earliest 0, latest 0
      ++ order 0x100B_C010_0001_0003_C000_0000_0000_0000
      -- 48: book 48, from 0 to 1, 1 Mb/s for 60 minutes, earliest 0, latest 0
      ++ order 0x100C_0010_0001_0003_C000_0000_0000_0000
      -- 49: book 49, from 0 to 1, 1 Mb/s for 60 minutes, earliest 0, latest 0
      ++ order 0x100C_4010_0001_0003_C000_0000_0000_0000
      -- 50: book 50, from 0 to 1, 1 Mb/s for 60 minutes, earliest 0, latest 0
      ++ order 0x100C_8010_0001_0003_C000_0000_0000_0000
      -- 51: book 51, from 0 to 1, 1 Mb/s for 60 minutes, earliest 0, latest 0
      ++ order 0x100C_C010_0001_0003_C000_0000_0000_0000
      -- 52: book 52, from 0 to 1, 1 Mb/s for 60 minutes, earliest 0, latest 0
      ++ order 0x100D_0010_0001_0003_C000_0000_0000_0000
      -- 53: book 53, from 0 to 1, 1 Mb/s for 60 minutes, earliest 0, latest 0
      ++ order 0x100D_4010_0001_0003_C000_0000_0000_0000
      -- 54: book 54, from 0 to 1, 1 Mb/s for 60 minutes, earliest 0, latest 0
      ++ order 0x100D_8010_0001_0003_C000_0000_0000_0000
      -- 55: book 55, from 0 to 1, 1 Mb/s for 60 minutes, earliest 0, latest 0
      ++ order 0x100D_C010_0001_0003_C000_0000_0000_0000
      -- 56: book 56, from 0 to 1, 1 Mb/s for 60 minutes, earliest 0, latest 0
      ++ order 0x100E_0010_0001_0003_C000_0000_0000_0000
      -- 57: book 57, from 0 to 1, 1 Mb/s for 60 minutes, earliest 0, latest 0
      ++ order 0x100E_4010_0001_0003_C000_0000_0000_0000
      -- 58: book 58, from 0 to 1, 1 Mb/s for 60 minutes, earliest 0, latest 0
      ++ order 0x100E_8010_0001_0003_C000_0000_0000_0000
      -- 59: book 59, from 0 to 1, 1 Mb/s for 60 minutes, earliest 0, latest 0
      ++ order 0x100E_C010_0001_0003_C000_0000_0000_0000
      -- 60: book 60, from 0 to 1, 1 Mb/s for 60 minutes, earliest 0, latest 0
      ++ order 0x100F_0010_0001_0003_C000_0000_0000_0000
      -- 61: book 61, from 0 to 1, 1 Mb/s for 60 minutes, earliest 0, latest 0
      ++ order 0x100F_4010_0001_0003_C000_0000_0000_0000
      -- 62: book 62, from 0 to 1, 1 Mb/s for 60 minutes, earliest 0, latest 0
      ++ order 0x100F_8010_0001_0003_C000_0000_0000_0000
      -- 63: book 63, from 0 to 1, 1 Mb/s for 60 minutes, earliest 0, latest 0
      ++ order 0x100F_C010_0001_0003_C000_0000_0000_0000
      -- 64: book 64, from 0 to 1, 1 Mb/s for 60 minutes, earliest 0, latest 0
      ++ order 0x1010_0010_0001_0003_C000_0000_0000_0000
      -- 65: book 65, from 0 to 1, 1 Mb/s for 60 minutes, earliest 0, latest 0
      ++ order 0x1010_4010_0001_0003_C000_0000_0000_0000
      -- 66: book 66, from 0 to 1, 1 Mb/s for 60 minutes, earliest 0, latest 0
      ++ order 0x1010_8010_0001_0003_C000_0000_0000_0000
      -- 67: book 67, from 0 to 1, 1 Mb/s for 60 minutes, earliest 0, latest 0
      ++ order 0x1010_C010_0001_0003_C000_0000_0000_0000
      -- 68: book 68, from 0 to 1, 1 Mb/s for 60 minutes, earliest 0, latest 0
      ++ order 0x1011_0010_0001_0003_C000_0000_0000_0000
      -- 69: book 69, from 0 to 1, 1 Mb/s for 60 minutes, earliest 0, latest 0
      ++ order 0x1011_4010_0001_0003_C000_0000_0000_0000
      -- 70: book 70, from 0 to 1, 1 Mb/s for 60 minutes, earliest 0, latest 0
      ++ order 0x1011_8010_0001_0003_C000_0000_0000_0000
      -- 71: book 64, from 0 to 1, 1 Mb/s for 60 minutes, earliest 0, latest 0
      ++ order 0x1010_0010_0001_0003_C000_0000_0000_0000
      -- 72: cancel 10
      ++ order 0x2002_8000_0000_0000_0000_0000_0000_0000
      -- 73: book 65, from 0 to 1, 1 Mb/s for 60 minutes, earliest 0, latest 0
      ++ order 0x1010_4010_0001_0003_C000_0000_0000_0000
      -- 74: book 66, from 0 to 1, 1 Mb/s for 60 minutes, earliest 0, latest 0
      ++ order 0x1010_8010_0001_0003_C000_0000_0000_0000
      -- 75: book 40, from 0 to 1, 1 Mb/s for 60 minutes, earliest 0, latest 0
      ++ order 0x100A_0010_0001_0003_C000_0000_0000_0000
      -- 76: offer, from 0 to 1, 16 Mb/s for 60 minutes, earliest 0, latest open
      ++ order 0x4000_0010_0010_0003_C000_0000_3FFF_FFFF
      -- 77: offer, from 0 to 1, 17 Mb/s for 60 minutes, earliest 0, latest open
      ++ order 0x4000_0010_0011_0003_C000_0000_3FFF_FFFF
      -- 78: clock 59
      ++ order 0x3000_0000_0000_0000_0000_000E_C000_0000
      -- 79: book 67, from 0 to 1, 1 Mb/s for 60 minutes, earliest 0, latest 0
      ++ order 0x1010_C010_0001_0003_C000_0000_0000_0000
      -- 80: clock 60
      ++ order 0x3000_0000_0000_0000_0000_000F_0000_0000
      -- 81: book 66, from 0 to 1, 40 Mb/s for 60 minutes, earliest 0, latest open
      ++ order 0x1010_8010_0028_0003_C000_0000_3FFF_FFFF
      -- 82: cancel 1
      ++ order 0x2000_4000_0000_0000_0000_0000_0000_0000;
  text =
      codes "desk links 2\n"
      ++ codes "1 booked 1 start 0 links 0\n"
      ++ codes "2 booked 2 start 0 links 0\n"
      ++ codes "3 booked 3 start 0 links 0\n"
      ++ codes "4 booked 4 start 0 links 0\n"
      ++ codes "5 booked 5 start 0 links 0\n"
      ++ codes "6 booked 6 start 0 links 0\n"
      ++ codes "7 booked 7 start 0 links 0\n"
      ++ codes "8 booked 8 start 0 links 0\n"
      ++ codes "9 booked 9 start 0 links 0\n"
      ++ codes "10 booked 10 start 0 links 0\n"
      ++ codes "11 booked 11 start 0 links 0\n"
      ++ codes "12 booked 12 start 0 links 0\n"
      ++ codes "13 booked 13 start 0 links 0\n"
      ++ codes "14 booked 14 start 0 links 0\n"
      ++ codes "15 booked 15 start 0 links 0\n"
      ++ codes "16 booked 16 start 0 links 0\n"
      ++ codes "17 booked 17 start 0 links 0\n"
      ++ codes "18 booked 18 start 0 links 0\n"
      ++ codes "19 booked 19 start 0 links 0\n"
      ++ codes "20 booked 20 start 0 links 0\n"
      ++ codes "21 booked 21 start 0 links 0\n"
      ++ codes "22 booked 22 start 0 links 0\n"
      ++ codes "23 booked 23 start 0 links 0\n"
      ++ codes "24 booked 24 start 0 links 0\n"
      ++ codes "25 booked 25 start 0 links 0\n"
      ++ codes "26 booked 26 start 0 links 0\n"
      ++ codes "27 booked 27 start 0 links 0\n"
      ++ codes "28 booked 28 start 0 links 0\n"
      ++ codes "29 booked 29 start 0 links 0\n"
      ++ codes "30 booked 30 start 0 links 0\n"
      ++ codes "31 booked 31 start 0 links 0\n"
      ++ codes "32 booked 32 start 0 links 0\n"
      ++ codes "33 booked 33 start 0 links 0\n"
      ++ codes "34 booked 34 start 0 links 0\n"
      ++ codes "35 booked 35 start 0 links 0\n"
      ++ codes "36 booked 36 start 0 links 0\n"
      ++ codes "37 booked 37 start 0 links 0\n"
      ++ codes "38 booked 38 start 0 links 0\n"
      ++ codes "39 booked 39 start 0 links 0\n"
      ++ codes "40 booked 40 start 0 links 0\n"
      ++ codes "41 booked 41 start 0 links 1\n"
      ++ codes "42 booked 42 start 0 links 1\n"
      ++ codes "43 booked 43 start 0 links 1\n"
      ++ codes "44 booked 44 start 0 links 1\n"
      ++ codes "45 booked 45 start 0 links 1\n"
      ++ codes "46 booked 46 start 0 links 1\n"
      ++ codes "47 booked 47 start 0 links 1\n"
      ++ codes "48 booked 48 start 0 links 1\n"
      ++ codes "49 booked 49 start 0 links 1\n"
      ++ codes "50 booked 50 start 0 links 1\n"
      ++ codes "51 booked 51 start 0 links 1\n"
      ++ codes "52 booked 52 start 0 links 1\n"
      ++ codes "53 booked 53 start 0 links 1\n"
      ++ codes "54 booked 54 start 0 links 1\n"
      ++ codes "55 booked 55 start 0 links 1\n"
      ++ codes "56 booked 56 start 0 links 1\n"
      ++ codes "57 booked 57 start 0 links 1\n"
      ++ codes "58 booked 58 start 0 links 1\n"
      ++ codes "59 booked 59 start 0 links 1\n"
      ++ codes "60 booked 60 start 0 links 1\n"
      ++ codes "61 booked 61 start 0 links 1\n"
      ++ codes "62 booked 62 start 0 links 1\n"
      ++ codes "63 booked 63 start 0 links 1\n"
      ++ codes "64 booked 64 start 0 links 1\n"
      ++ codes "65 refused 7\n"
      ++ codes "66 refused 7\n"
      ++ codes "67 refused 7\n"
      ++ codes "68 refused 7\n"
      ++ codes "69 refused 7\n"
      ++ codes "70 refused 7\n"
      ++ codes "71 refused 6\n"
      ++ codes "72 cancelled 10\n"
      ++ codes "73 booked 65 start 0 links 0\n"
      ++ codes "74 refused 7\n"
      ++ codes "75 refused 6\n"
      ++ codes "76 offer start 0 links 1\n"
      ++ codes "77 offer start 60 links 0\n"
      ++ codes "78 clock 59\n"
      ++ codes "79 refused 5\n"
      ++ codes "80 clock 60\n"
      ++ codes "81 booked 66 start 60 links 0\n"
      ++ codes "82 refused 9\n";
}

-- a day under a guard of 10 minutes; minute 480 is eight o'clock
abbrev pub guarded_day : Sample
guarded_day = record {
  bytes =
      3 ∷ 10 ∷ []
      -- link 0: from 0 to 1, 100 Mb/s
      ++ link 0x0040_0190_0000_0000
      -- link 1: from 1 to 2, 100 Mb/s
      ++ link 0x0880_0190_0000_0000
      -- link 2: from 0 to 2, 40 Mb/s
      ++ link 0x0080_00A0_0000_0000
      -- 1: clock 480
      ++ order 0x3000_0000_0000_0000_0000_0078_0000_0000
      -- 2: book 201, from 0 to 2, 40 Mb/s for 60 minutes, earliest 480, latest open
      ++ order 0x1032_4020_0028_0003_C000_0078_3FFF_FFFF
      -- 3: book 202, from 0 to 2, 100 Mb/s for 30 minutes, earliest 480, latest open
      ++ order 0x1032_8020_0064_0001_E000_0078_3FFF_FFFF
      -- 4: book 203, from 0 to 2, 40 Mb/s for 30 minutes, earliest 510, latest 519
      ++ order 0x1032_C020_0028_0001_E000_007F_8000_0207
      -- 5: the same, latest 520
      ++ order 0x1032_C020_0028_0001_E000_007F_8000_0208
      -- 6: book 204, from 0 to 2, 70 Mb/s for 20 minutes, earliest 540, latest open
      ++ order 0x1033_0020_0046_0001_4000_0087_3FFF_FFFF
      -- 7: book 205, from 1 to 2, 100 Mb/s for 30 minutes, earliest 660, latest 660
      ++ order 0x1033_4220_0064_0001_E000_00A5_0000_0294
      -- 8: offer, from 1 to 2, 100 Mb/s for 60 minutes, earliest 590, latest open
      ++ order 0x4000_0220_0064_0003_C000_0093_BFFF_FFFF
      -- 9: the same for 61 minutes
      ++ order 0x4000_0220_0064_0003_D000_0093_BFFF_FFFF
      -- 10: clock 540
      ++ order 0x3000_0000_0000_0000_0000_0087_0000_0000
      -- 11: book 201, which is in its guard, from 0 to 2, 40 Mb/s for 10 minutes, earliest 540, latest open
      ++ order 0x1032_4020_0028_0000_A000_0087_3FFF_FFFF
      -- 12: offer, from 0 to 2, 30 Mb/s for 10 minutes, earliest 540, latest 540
      ++ order 0x4000_0020_001E_0000_A000_0087_0000_021C
      -- 13: clock 550
      ++ order 0x3000_0000_0000_0000_0000_0089_8000_0000
      -- 14: the booking of order 11 again
      ++ order 0x1032_4020_0028_0000_A000_0087_3FFF_FFFF
      -- 15: cancel 204
      ++ order 0x2033_0000_0000_0000_0000_0000_0000_0000
      -- 16: offer, from 0 to 2, 100 Mb/s for 20 minutes, earliest 540, latest open
      ++ order 0x4000_0020_0064_0001_4000_0087_3FFF_FFFF
      -- 17: cancel 203, which is in its guard
      ++ order 0x2032_C000_0000_0000_0000_0000_0000_0000
      -- 18: the same offer again
      ++ order 0x4000_0020_0064_0001_4000_0087_3FFF_FFFF
      -- 19: cancel 202, whose guard has ended
      ++ order 0x2032_8000_0000_0000_0000_0000_0000_0000
      -- 20: book 206, from 0 to 2, 40 Mb/s for 20 minutes, earliest 600, latest 600
      ++ order 0x1033_8020_0028_0001_4000_0096_0000_0258
      -- 21: offer, from 1 to 2, 100 Mb/s for 60 minutes, earliest 591, latest 699
      ++ order 0x4000_0220_0064_0003_C000_0093_C000_02BB
      -- 22: offer, from 0 to 2, 40 Mb/s for 80 minutes, earliest 580, latest 629
      ++ order 0x4000_0020_0028_0005_0000_0091_0000_0275
      -- 23: book 207, from 0 to 1, 80 Mb/s for 5 minutes, earliest 585, latest 585
      ++ order 0x1033_C010_0050_0000_5000_0092_4000_0249
      -- 24: book 208, from 0 to 2, 40 Mb/s for 80 minutes, earliest 580, latest 629
      ++ order 0x1034_0020_0028_0005_0000_0091_0000_0275
      -- 25: the same, latest 630
      ++ order 0x1034_0020_0028_0005_0000_0091_0000_0276;
  text =
      codes "desk links 3\n"
      ++ codes "1 clock 480\n"
      ++ codes "2 booked 201 start 480 links 2\n"
      ++ codes "3 booked 202 start 480 links 0 1\n"
      ++ codes "4 refused 8 at 510\n"
      ++ codes "5 booked 203 start 520 links 0 1\n"
      ++ codes "6 booked 204 start 560 links 0 1\n"
      ++ codes "7 booked 205 start 660 links 1\n"
      ++ codes "8 offer start 590 links 1\n"
      ++ codes "9 offer start 700 links 1\n"
      ++ codes "10 clock 540\n"
      ++ codes "11 refused 6\n"
      ++ codes "12 offer start 540 links 0 1\n"
      ++ codes "13 clock 550\n"
      ++ codes "14 booked 201 start 550 links 2\n"
      ++ codes "15 cancelled 204\n"
      ++ codes "16 offer start 560 links 0 1\n"
      ++ codes "17 cancelled 203\n"
      ++ codes "18 offer start 550 links 0 1\n"
      ++ codes "19 refused 9\n"
      ++ codes "20 booked 206 start 600 links 2\n"
      ++ codes "21 refused 8 at 660\n"
      ++ codes "22 refused 8 at 660\n"
      ++ codes "23 booked 207 start 585 links 0\n"
      ++ codes "24 refused 8 at 600\n"
      ++ codes "25 booked 208 start 630 links 2\n";
}

abbrev pub samples : List Sample
samples = busy_day ∷ full_book ∷ guarded_day ∷ []

-- a program prints the text of each
abbrev pub PrintsSamples : (List ℕ → List ℕ) → Type 0
PrintsSamples program = All (λ s. program s.bytes ≡ s.text) samples
