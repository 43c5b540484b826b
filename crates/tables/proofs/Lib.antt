mod Tabling
