-- Where the 128 words of a tick block lie (docs/RULES.md, 'The tick block'). A part of several words is named by its first one.
use Rattle.std.specs.Prelude.{ℕ}

-- the length of a tick block
abbrev pub block_bytes : ℕ
block_bytes = 512

abbrev pub version : ℕ
version = 0

-- the tick's number in its pass
abbrev pub number : ℕ
number = 1

abbrev pub flags : ℕ
flags = 2

abbrev pub mode : ℕ
mode = 3

-- 4-6: the sighted pose
abbrev pub sighting : ℕ
sighting = 4

-- 7-10: the measured wheel speeds
abbrev pub wheels : ℕ
wheels = 7

abbrev pub gyro : ℕ
gyro = 11

-- 12-17: the estimator's prediction
abbrev pub predicted : ℕ
predicted = 12

-- 18-23: the estimator's estimate
abbrev pub estimate : ℕ
estimate = 18

-- 24-36: the command's words
abbrev pub command : ℕ
command = 24

-- 37-45: the sample that a new plan gives for this tick
abbrev pub fresh : ℕ
fresh = 37

-- 46-54: the sample that the tracked plan gives for the next tick
abbrev pub next : ℕ
next = 46

-- 55, 56: cosine and sine of the estimate's heading
abbrev pub cosine : ℕ
cosine = 55

abbrev pub sine : ℕ
sine = 56

-- 57-65, 66-77, 78-89: matrices of 3 by 3, 4 by 3 and 4 by 3, row by row
abbrev pub inverse_inertia : ℕ
inverse_inertia = 57

abbrev pub twist_to_wheel : ℕ
twist_to_wheel = 66

abbrev pub accel_to_wheel : ℕ
accel_to_wheel = 78

-- 90-101: a matrix of 3 by 4, row by row, at the sighted heading
abbrev pub wheel_to_twist : ℕ
wheel_to_twist = 90

-- 102-104: the friction force in local axes
abbrev pub friction : ℕ
friction = 102

-- the tick length's k
abbrev pub tick_length : ℕ
tick_length = 105

-- 106-126: 21 words that are to be zero
abbrev pub spare : ℕ
spare = 106

abbrev pub spares : ℕ
spares = 21

-- the last word
abbrev pub check : ℕ
check = 127
